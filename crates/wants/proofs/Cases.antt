-- The definitions tried on inputs where 01 could be read in two ways.
use Rattle.std.specs.Prelude.{None, Ok, Err}
use Prim.Native.Nat.{ℕ}
use mathlib.Core.Path.{◌≡◌, refl}
use mathlib.Core.List.{List}
use Rattle.terms.specs.Terms.{ascii}
use Rattle.answers.specs.declared.Refusal.{Refusal}
use Rattle.answers.specs.Places.{place}
use Rattle.steps.specs.declared.Moved.{Moved}
use Rattle.steps.specs.Steps.{moved}
use Rattle.steps.proofs.Cases.{position, next}
use Rattle.wants.specs.Wanted.{kind_verdict, eat_step, eat_at, expect_step, expect_at}

-- The steps from a place on, over a text at offset 5.
unfoldable pub eat : List ℕ → ℕ → ℕ → Moved
unfolding next eat_at eat_step kind_verdict
eat s wanted p = eat_at s 5 wanted (place p)

unfoldable pub expect : List ℕ → ℕ → ℕ → Moved
unfolding eat expect_at expect_step
expect s wanted p = expect_at s 5 wanted (place p)

-- 20 2F 2F: eat leaves the cursor at the end of the text.
pub eat_at_end : eat (ascii " //") 62 0 ≡ moved (Ok None) (place 0)
unfolding eat
eat_at_end = refl

-- Next skips blanks and comments, so eat of kind 0 or 1 never says yes.
pub eat_blank : eat (ascii " a") 0 0 ≡ moved (Ok None) (place 0)
unfolding eat
eat_blank = refl

pub eat_comment : eat (ascii "/**/a") 1 0 ≡ moved (Ok None) (place 0)
unfolding eat
eat_comment = refl

-- `a`, cursor 2, kind 67 wanted: 23 goes before 22,
pub beyond_before_kind : eat (ascii "a") 67 2 ≡ moved (Err Refusal.BeyondText) (place 2)
unfolding eat
beyond_before_kind = refl

-- and a cursor at the length is inside: 22.
pub kind_too_large : expect (ascii "a") 67 1 ≡ moved (Err Refusal.BadSpan) (place 1)
unfolding expect
kind_too_large = refl

-- `a `, `;` wanted behind the `a`: 21's found kind is 67 at the end of the text, and the cursor stands there.
pub wanted_at_end : expect (ascii "a ") 6 1 ≡ moved (Err (Refusal.Wanted (position 7) 6 67)) (place 2)
unfolding expect
wanted_at_end = refl

-- ` a;`, `;` wanted: 21 stands at the found token's start, and the cursor behind it.
pub wanted_other : expect (ascii " a;") 6 0 ≡ moved (Err (Refusal.Wanted (position 6) 6 62)) (place 2)
unfolding expect
wanted_other = refl
