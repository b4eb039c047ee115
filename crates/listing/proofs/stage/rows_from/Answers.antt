use Rattle.std.specs.Prelude.{None, Some, Ok, Err}
use Rattle.std.proofs.Common.{rules, ◌≡◌, sym, ◌∙◌, arith}
use Rattle.tokens.specs.Tokens.{raw_at}
use Rattle.tokens.proofs.TokenLaws.{raw_goes}
use Rattle.listing.specs.Listings.{Listed}
use Rattle.listing.proofs.StageLaws.{walked_start, walked_on, walked_end, walked_refused}
use Rattle.listing.proofs.stage.rows_from.Goals as goal

pub loop-lexeme-init : goal.loop-lexeme-init
loop-lexeme-init c = walked_start _ _ _ _ _ c.requires.0

pub returns-in_err-lexeme : goal.returns-in_err-lexeme
returns-in_err-lexeme c =
    let k : ◌≡◌ {A = Listed} c.from_residual.result (Err c.in_err-lexeme.field-0.0) = search rules in
    rw k (walked_refused _ _ _ _ _ _ _ _ c.loop-lexeme.invariant _ (sym c.next_raw.ensures ∙ c.in_err-lexeme.was))

pub loop-lexeme-smaller : goal.loop-lexeme-smaller
loop-lexeme-smaller c =
    let t = c.in-Some.lexeme in
    let e : raw_at c.args.text.now c.args.offset c.loop-lexeme.at ≡ Ok (Some t) = rw c.in-Some.is at (sym c.next_raw.ensures ∙ c.in_ok-lexeme.was) in
    let g = raw_goes _ _ _ t.kind t.span t.next e in
    omega (arith, g.beyond, g.inside)

pub loop-lexeme-preserved : goal.loop-lexeme-preserved
loop-lexeme-preserved c =
    let t = c.in-Some.lexeme in
    let e : raw_at c.args.text.now c.args.offset c.loop-lexeme.at ≡ Ok (Some t) = rw c.in-Some.is at (sym c.next_raw.ensures ∙ c.in_ok-lexeme.was) in
    walked_on _ _ _ _ _ _ _ _ c.loop-lexeme.invariant t e _ _ c.stage_row-count.ensures

pub returns : goal.returns
returns c =
    let e : raw_at c.args.text.now c.args.offset c.loop-lexeme.at ≡ Ok None = rw c.in_default.is at (sym c.next_raw.ensures ∙ c.in_ok-lexeme.was) in
    walked_end _ _ _ _ _ _ _ _ c.loop-lexeme.invariant e
