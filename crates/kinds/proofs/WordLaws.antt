-- Only keywords of a word's own length can be the word.
use Rattle.std.specs.Prelude.{if◌then◌else◌}
use Prim.Native.Nat.{ℕ}
use mathlib.Core.Path.{◌≡◌, refl, ap, ◌∙◌}
use mathlib.Core.Bool.{Bool, true, false}
use mathlib.Core.List.{List, [], ◌∷◌}
use lib.ListN.{length}
use lib.Dec.{eqb}
use borrow.Author.Tests.{eqb-false}
use Rattle.terms.specs.Terms.{same_bytes}
use Rattle.terms.proofs.BytesLaws.{same_longer}
use Rattle.kinds.specs.declared.Token.{Token}
use Rattle.kinds.specs.Keywords.{Key, ◌keys◌, keywords, key_in, keyword}
use Rattle.kinds.specs.inner.ByLength.{keep, of_length}

by_length : (rows : List Key) (word : List ℕ) → key_in rows word ≡ key_in (of_length (length word) rows) word
unfolding key_in of_length keep
by_length [] word = refl
by_length ((bytes keys kind) ∷ rows) word = go (eqb (length word) (length bytes)) refl (by_length rows word)
  where
    go : (t : Bool) → eqb (length word) (length bytes) ≡ t → key_in rows word ≡ key_in (of_length (length word) rows) word
        → (if same_bytes word bytes then kind else key_in rows word) ≡ key_in (keep t (bytes keys kind) (of_length (length word) rows)) word
    go true h ih = ap (λ (k : Token). if same_bytes word bytes then kind else k) ih
    go false h ih = rw (same_longer word bytes (eqb-false (length word) (length bytes) h)) ih

-- THE LAW: a word of n bytes is looked up among the keywords of n bytes
pub of_length_lem : (n : ℕ) (word : List ℕ) → length word ≡ n → keyword word ≡ key_in (of_length n keywords) word
unfolding keyword
of_length_lem n word e = by_length keywords word ∙ ap (λ (m : ℕ). key_in (of_length m keywords) word) e
