-- What a listing is where its text is opened, and where it is refused.
use Rattle.std.specs.Prelude.{Ok, Err}
use Prim.Native.Nat.{ℕ}
use mathlib.Core.Path.{◌≡◌}
use mathlib.Core.List.{List}
use Rattle.answers.specs.declared.Place.{Place}
use Rattle.answers.specs.declared.Refusal.{Refusal}
use Rattle.steps.specs.Stream.{tokens_from}
use Rattle.steps.specs.Steps.{opened}
use Rattle.listing.specs.declared.Listing.{Listing}
use Rattle.listing.specs.Rows.{rows_of, rows_by, text_rows}
use Rattle.listing.specs.Listings.{tabled, listed}

module _ (l : Listing) (s : List ℕ) (o : ℕ) where
  pub rows_at : (p : Place) → opened s o ≡ Ok p → text_rows l s o ≡ rows_of l (tokens_from s o p)
  unfolding text_rows rows_by
  rows_at p e = rw e

  module _ (table : List ℕ) where
    pub listed_at : (p : Place) → opened s o ≡ Ok p → listed l s o table ≡ tabled (rows_of l (tokens_from s o p)) table
    unfolding listed
    listed_at p e = rw (rows_at p e)

    pub listed_refused : (f : Refusal) → opened s o ≡ Err f → listed l s o table ≡ (Err f, table)
    unfolding listed text_rows rows_by tabled
    listed_refused f e = rw e
