-- What a text that passes 1 and 2 has: a length, and positions that are sums as they stand.
use Rattle.std.specs.Prelude.{Result, Ok, Err, if◌then◌else◌}
use Rattle.std.proofs.Common.{◌≡◌, ℕ, ◌+◌, ◌≤◌, min, Bool, true, false, leb, refl, arith, le-leb, leb-true}
use Rattle.answers.specs.declared.Place.{Place}
use Rattle.answers.specs.declared.Refusal.{Refusal}
use Rattle.answers.specs.declared.Refusal.TheVariants.{TooLong, OutOfMap}
use Rattle.answers.specs.Places.{in_map}
use Rattle.answers.specs.Caps.{Verdict, accepted, cap, map_end, first_of, length_verdict, map_verdict, text_verdict}

-- a refusal is no acceptance
pub refused_not : {f : Refusal} → Err f ≡ accepted → ⊥
refused_not e = let z : ◌≡◌ {A = ℕ} 0 1 = cc in omega arith

-- where the first of two refuses, so do both, and both accept where each does
pub first_refused : (v w : Verdict) (f : Refusal) → v ≡ Err f → first_of v w ≡ Err f
unfolding first_of
first_refused v w f e = rw e

pub first_accepted : (v w : Verdict) → v ≡ accepted → first_of v w ≡ w
unfolding first_of
first_accepted v w e = rw e

pub first_both : (v w : Verdict) → first_of v w ≡ accepted → (v ≡ accepted) × (w ≡ accepted)
unfolding first_of
first_both (Ok _) w e = (refl, e)
first_both (Err f) w e = absurd (refused_not e)

-- what is accepted by a test passes it
pub accepted_if : (t : Bool) (f : Refusal) → (if t then accepted else Err f) ≡ accepted → t ≡ true
accepted_if true f e = refl
accepted_if false f e = absurd (refused_not e)

pub length_in : (n : ℕ) → length_verdict n ≡ accepted → n ≤ cap
unfolding length_verdict
length_in n e = leb-true n cap (accepted_if (leb n cap) (TooLong (min n 4294967295)) e)

map_in : (o n : ℕ) → map_verdict o n ≡ accepted → o + n ≤ map_end
unfolding map_verdict
map_in o n e = leb-true (o + n) map_end (accepted_if (leb (o + n) map_end) OutOfMap e)

-- a text that passes is short, and ends in the map
pub record Fits (o n : ℕ) : Type 0 where
  pub short : n ≤ cap
  pub mapped : o + n ≤ map_end

pub text_in : (o n : ℕ) → text_verdict o n ≡ accepted → Fits o n
unfolding text_verdict
text_in o n e =
    let b = first_both (length_verdict n) (map_verdict o n) e in
    record { short = length_in n b.0; mapped = map_in o n b.1 }

pub fits_text : (o n : ℕ) → Fits o n → text_verdict o n ≡ accepted
unfolding text_verdict first_of length_verdict map_verdict
fits_text o n f = rw (le-leb n cap f.short, le-leb (o + n) map_end f.mapped)

-- then a position is the sum
pub in_map_lem : (o : ℕ) (p : Place) → o + p.0 ≤ 4294967295 → (in_map o p).0 ≡ o + p.0
unfolding in_map
in_map_lem o p h = omega arith
