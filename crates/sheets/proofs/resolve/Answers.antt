use Rattle.std.proofs.Common.{◌≡◌, sym, ap, ◌∙◌, arith, rules}
use Rattle.std.specs.Prelude.{Err}
use Rattle.answers.specs.Caps.{accepted}
use Rattle.sheets.specs.Words.{listed}
use Rattle.sheets.specs.inner.Asked.{Filled}
use Rattle.sheets.specs.Checks.{words_verdict, repeat_verdict}
use Rattle.sheets.proofs.ResolveLaws.{refuse_words, refuse_names, refuse_room, resolves}
use Rattle.sheets.proofs.NameLaws.{signed_all}
use Rattle.sheets.proofs.resolve.Goals as goal

pub returns-in_err-sheet : goal.returns-in_err-sheet
returns-in_err-sheet c =
    let e : c.from_residual.result ≡ Err c.in_err-sheet.field-0.0 = search rules in
    rw e (refuse_words _ _ _ _ _ (sym c.in_err-sheet.ensures.verdict))

pub returns-in_err-sign : goal.returns-in_err-sign
returns-in_err-sign c =
    let e : c.from_residual-in_err-sign.result ≡ Err c.in_err-sign.field-0.0 = search rules in
    let s = c.in_ok-sheet.ensures.same in
    let words : words_verdict c.args.sheet.now c.args.names.now ≡ accepted = sym c.in_ok-sheet.ensures.verdict in
    let names : repeat_verdict c.args.sheet.now c.args.names.now ≡ Err c.in_err-sign.field-0.0 = rw (s.0, s.1) at (sym c.sign.ensures.verdict ∙ c.in_err-sign.was) in
    rw e (refuse_names _ _ _ _ words _ names)

pub returns-then-owners-listed : goal.returns-then-owners-listed
returns-then-owners-listed c =
    let s = c.in_ok-sheet.ensures.same in
    let words : words_verdict c.args.sheet.now c.args.names.now ≡ accepted = sym c.in_ok-sheet.ensures.verdict in
    let names : repeat_verdict c.args.sheet.now c.args.names.now ≡ accepted = rw (s.0, s.1) at (sym c.sign.ensures.verdict ∙ c.in_ok-sign.was) in
    refuse_room _ _ _ _ words names _ (c.listed-listed.ensures ∙ ap listed s.0) c.then-owners-listed.either

pub invariant_of-index : goal.invariant_of-index
invariant_of-index c =
    let all = signed_all _ _ _ _ _ _ c.sign.ensures c.items.ensures c.in_ok-sign.was in
    record { few = omega (arith, all.0); signed = rw all.0 all.1 }

pub returns : goal.returns
returns c =
    let s = c.in_ok-sheet.ensures.same in
    let ws = c.args.sheet.now in
    let bs = c.args.names.now in
    let words : words_verdict ws bs ≡ accepted = sym c.in_ok-sheet.ensures.verdict in
    let names : repeat_verdict ws bs ≡ accepted = rw (s.0, s.1) at (sym c.sign.ensures.verdict ∙ c.in_ok-sign.was) in
    let filled : Filled ws bs c.args.owners.now c.args.targets.now c.resolve_edges.result c.resolve_edges.new.owners c.resolve_edges.new.targets =
    rw (← s.0, ← s.1) c.resolve_edges.ensures in
    let few : c.listed-listed.result ≡ listed ws = c.listed-listed.ensures ∙ ap listed s.0 in
    resolves _ _ _ _ words names (omega arith) (omega arith) _ _ _ filled
