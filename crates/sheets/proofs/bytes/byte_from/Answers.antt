use Rattle.std.proofs.Common.{◌≡◌, ℕ, ◌-◌, List, length, take, drop, eqb, sym, ◌∙◌, arith, rules, tests}
use Rattle.std.specs.List.{position_or_len}
use Rattle.std.proofs.lemmas.Iterator.{YieldsList-from_slice}
use Rattle.std.proofs.lemmas.Iterator.Search.{position_from_yields_List}
use Rattle.std.proofs.lemmas.List.{length-drop}
use lib.Seq.{take_all}
use Rattle.terms.proofs.FirstLaws.{first_end}
use Rattle.sheets.specs.inner.Bytes.{holds}
use Rattle.sheets.specs.inner.Found.{before}
use Rattle.sheets.proofs.FoundLaws.{before_none}
use Rattle.sheets.proofs.ByteLaws.{rest_some, rest_none}
use Rattle.sheets.proofs.bytes.byte_from.Goals as goal

pub returns-then-bytes-from : goal.returns-then-bytes-from
returns-then-bytes-from c =
    before_none _ _ (omega (arith, first_end (holds c.args.bytes.now c.args.x) c.args.from (length c.args.bytes.now) (omega arith)))

-- the bytes from `from` on, to their end
all_from : (bs : List ℕ) (from : ℕ) → take (length bs - from) (drop from bs) ≡ drop from bs
all_from bs from = take_all (length bs - from) (drop from bs) (omega (arith, length-drop from bs))

pub returns-in_err-at : goal.returns-in_err-at
returns-in_err-at c =
    let rest = c.skip-rest.result.now in
    let found : c.position.result ≡ before (length rest) (position_or_len (λ (b : ℕ). eqb b c.args.x) rest) =
    position_from_yields_List (λ (b : ℕ). eqb b c.args.x) _ _ _ c.position.ensures.ran (YieldsList-from_slice rest cc) (λ b t q k. search (rules, tests)) in
    c.from_residual.ensures ∙ rest_none _ _ _ c.if-bytes-from.false _ (rw all_from at c.skip-rest.ensures) (sym c.in_err-at.was ∙ found)

pub returns : goal.returns
returns c =
    let rest = c.skip-rest.result.now in
    let found : c.position.result ≡ before (length rest) (position_or_len (λ (b : ℕ). eqb b c.args.x) rest) =
    position_from_yields_List (λ (b : ℕ). eqb b c.args.x) _ _ _ c.position.ensures.ran (YieldsList-from_slice rest cc) (λ b t q k. search (rules, tests)) in
    rest_some _ _ _ c.if-bytes-from.false _ (rw all_from at c.skip-rest.ensures) _ (sym c.in_ok-at.was ∙ found)
