-- The count of terms is the library's.
use Rattle.std.proofs.Common.{◌≡◌, ℕ, ◌+◌, Bool, true, false, List, refl, zero-add, cond}
use Rattle.std.specs.List.{count_by}
use Rattle.std.proofs.lemmas.List.Recursion.{is_count_by}
use Rattle.terms.specs.Terms.{bit, count}

pub bit_or_none : (b : Bool) (n : ℕ) → bit b + n ≡ cond b (1 + n) n
bit_or_none true n = refl
bit_or_none false n = zero-add n

pub counted : {A : Type 0} (test : A → Bool) (xs : List A) → count test xs ≡ count_by test xs
unfolding count
counted test xs = is_count_by (count test) test refl (λ x ys. bit_or_none (test x) (count test ys)) xs
