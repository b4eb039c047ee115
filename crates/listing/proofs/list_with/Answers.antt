use Rattle.std.specs.Prelude.{Err}
use Rattle.std.proofs.Common.{rules, ◌≡◌, sym, ◌∙◌, arith}
use Rattle.steps.proofs.StepLaws.{opened_in}
use Rattle.listing.specs.Listings.{Listed}
use Rattle.listing.specs.inner.Staging.{delivered}
use Rattle.listing.proofs.ListingLaws.{listed_at, listed_refused}
use Rattle.listing.proofs.StageLaws.{staged_tabled}
use Rattle.listing.proofs.list_with.Goals as goal

pub returns-in_err-from : goal.returns-in_err-from
returns-in_err-from g c =
    let k : ◌≡◌ {A = Listed} c.from_residual.result (Err c.in_err-from.field-0.0) = search rules in
    rw k (sym (listed_refused _ _ _ _ _ (sym c.open.ensures ∙ c.in_err-from.was)))

pub rows_from-requires : goal.rows_from-requires
rows_from-requires g c = let w = opened_in _ _ _ (sym c.open.ensures ∙ c.in_ok-from.was) in (w.within, w.fits.short)

pub returns-in_err-count : goal.returns-in_err-count
unfolding delivered
returns-in_err-count g c =
    let k : ◌≡◌ {A = Listed} c.from_residual-in_err-count.result (Err c.in_err-count.field-0.0) = search rules in
    let d = staged_tabled _ _ _ _ _ c.rows_from.ensures (λ n e h. omega (arith, c.rows_from.ensures.few n e, c.requires)) c.args.table.now in
    rw (k, listed_at _ _ _ _ _ (sym c.open.ensures ∙ c.in_ok-from.was)) (rw c.in_err-count.was at d)

pub returns : goal.returns
returns g c =
    let d = staged_tabled _ _ _ _ _ c.rows_from.ensures (λ n e h. omega (arith, c.rows_from.ensures.few n e, c.requires)) c.args.table.now in
    rw (listed_at _ _ _ _ _ (sym c.open.ensures ∙ c.in_ok-from.was)) (c.deliver.ensures ∙ rw c.in_ok-count.was at d)
