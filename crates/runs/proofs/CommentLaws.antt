-- A comment's turns, the bytes that it passes over at once, and where it ends.
use Rattle.std.specs.Prelude.{if◌then◌else◌}
use Prim.Native.Nat.{ℕ, ◌+◌, ◌-◌, ◌≤◌}
use mathlib.Core.Path.{◌≡◌, refl, ◌∙◌}
use mathlib.Core.Bool.{Bool, true, false}
use mathlib.Core.Logic.{inr}
use mathlib.Core.List.{List, [], ◌∷◌}
use native.Mathlib.Omega.{arith}
use lib.ListN.{length}
use lib.Dec.{eqb}
use borrow.Author.Tests.{eqb-false}
use Rattle.terms.specs.Terms.{member}
use Rattle.terms.proofs.TestLaws.{or_neither}
use Rattle.answers.specs.declared.Place.{Place}
use Rattle.answers.specs.declared.Position.{Position}
use Rattle.answers.specs.declared.Ill.{Ill as Sequence}
use Rattle.answers.specs.declared.Refusal.TheVariants.{IllFormed, UnterminatedComment}
use Rattle.std.specs.Prelude.{Option, None, Some, Ok, Err}
use Rattle.chars.specs.Utf8.{byte_at, on_by}
use Rattle.chars.specs.View.{Chars, end, ill, char, place_of, folded_at, folded_from}
use Rattle.screening.specs.inner.Plain.{plain_end}
use Rattle.chars.proofs.ViewLaws.{folded_end, folded_ill, folded_char, folded_place}
use Rattle.screening.proofs.PlainLaws.{Passes, plain_beyond, plain_folded}
use Rattle.runs.specs.declared.Block.{Block}
use Rattle.runs.specs.Comments.{Ran, line_comment, seen, block_turn, block_on, block_comment}
use Rattle.runs.specs.inner.Runs.{passed_by, depth_of}
use Rattle.runs.proofs.RunLaws.{to_is, stopped_not, Among, first_among, view_within}

module _ (s : List ℕ) (p : Place) where
  pub line_end : folded_at s p ≡ Ok None → line_comment (folded_from s p) ≡ Ok p
  unfolding line_comment
  line_end e = rw (folded_end s p e)

  pub line_ill : (i : Sequence) → folded_at s p ≡ Err i → line_comment (folded_from s p) ≡ Err (IllFormed i)
  unfolding line_comment
  line_ill i e = rw (folded_ill s p i e)

  module _ (c : ℕ) (n : Place) (e : folded_at s p ≡ Ok (Some (c, n))) where
    pub line_newline : eqb c 10 ≡ true → line_comment (folded_from s p) ≡ Ok n
    unfolding line_comment
    line_newline h = rw (folded_char s p c n e, h, folded_place s n)

    pub line_other : eqb c 10 ≡ false → line_comment (folded_from s p) ≡ line_comment (folded_from s n)
    unfolding line_comment
    line_other h = rw (folded_char s p c n e, h)

-- plain text without a newline goes on with it
abbrev pub line_stops : List ℕ
line_stops = 10 ∷ 10 ∷ 13 ∷ []

line_stays : (c : ℕ) → Passes line_stops c → eqb c 10 ≡ false
unfolding member
line_stays c m = (or_neither (eqb c 10) (member c (10 ∷ 13 ∷ [])) m.other).0

line_passes : (s : List ℕ) (p : Place) → line_comment (folded_from s p) ≡ line_comment (folded_from s (plain_end s line_stops p))
unfolding member
line_passes s p =
    plain_folded s line_stops p (λ (q : Place). line_comment (folded_from s q)) refl
    (λ q m e. line_other s q (byte_at s q) (on_by 1 q) e (line_stays _ m))

pub line_past : {r : Ran} (s : List ℕ) (p q : Place)
    → r ≡ line_comment (folded_from s p) → q ≡ plain_end s line_stops p → r ≡ line_comment (folded_from s q)
line_past s p q e h = rw h (e ∙ line_passes s p)

-- it ends at a place of the view
line_among : (v : Chars) (n : Place) → line_comment v ≡ Ok n → Among v n
unfolding line_comment
line_among (end q) n e = to_is e
line_among (ill i) n e = absurd (stopped_not e)
line_among (char q c v) n e = go (eqb c 10) e (line_among v n)
  where
    go : (t : Bool) → (if t then Ok (place_of v) else line_comment v) ≡ Ok n → (line_comment v ≡ Ok n → Among v n) → Among (char q c v) n
    go true e ih = inr (first_among v n (to_is e))
    go false e ih = inr (ih e)

pub line_to : (s : List ℕ) (p : Place) → p.0 ≤ length s → (n : Place) → line_comment (folded_from s p) ≡ Ok n → (p.0 ≤ n.0) × (n.0 ≤ length s)
line_to s p l n e = view_within s p l n (line_among (folded_from s p) n e)

-- block comments
module _ (q : Position) (b : Block) (s : List ℕ) (p : Place) where
  pub block_end : folded_at s p ≡ Ok None → block_comment q b (folded_from s p) ≡ Err (UnterminatedComment q)
  unfolding block_comment
  block_end e = rw (folded_end s p e)

  pub block_ill : (i : Sequence) → folded_at s p ≡ Err i → block_comment q b (folded_from s p) ≡ Err (IllFormed i)
  unfolding block_comment
  block_ill i e = rw (folded_ill s p i e)

  module _ (c : ℕ) (n : Place) (e : folded_at s p ≡ Ok (Some (c, n))) where
    block_char : block_comment q b (folded_from s p) ≡ block_on (block_turn b c) (folded_from s n) (λ next. block_comment q next (folded_from s n))
    unfolding block_comment
    block_char = rw (folded_char s p c n e)

    pub block_closed : block_turn b c ≡ None → block_comment q b (folded_from s p) ≡ Ok n
    unfolding block_on
    block_closed h = block_char ∙ rw (h, folded_place s n)

    pub block_open : (a : Block) → block_turn b c ≡ Some a → block_comment q b (folded_from s p) ≡ block_comment q a (folded_from s n)
    unfolding block_on
    block_open a h = block_char ∙ rw h

-- plain text without `/` and `*` begins no pair
abbrev pub block_stops : List ℕ
block_stops = 47 ∷ 42 ∷ 13 ∷ []

stays : (d c : ℕ) → Passes block_stops c → block_turn (Block.Other d) c ≡ Some (Block.Other d)
unfolding block_turn seen member
stays d c m =
    let slash = or_neither (eqb c 47) (member c (42 ∷ 13 ∷ [])) m.other in
    let star = or_neither (eqb c 42) (member c (13 ∷ [])) slash.1 in
    rw (slash.0, star.0)

block_passes : (q : Position) (b : Block) (s : List ℕ) (p : Place)
    → block_comment q b (folded_from s p) ≡ block_comment q b (folded_from s (passed_by b s p))
unfolding passed_by block_on member
block_passes q (Block.Other d) s p =
    plain_folded s block_stops p (λ (r : Place). block_comment q (Block.Other d) (folded_from s r)) refl
    (λ r m e. block_char q (Block.Other d) s r (byte_at s r) (on_by 1 r) e ∙ rw (stays d _ m))
block_passes q (Block.Slash d) s p = refl
block_passes q (Block.Star d) s p = refl

pub block_past : {r : Ran} (q : Position) (b : Block) (s : List ℕ) (p h : Place)
    → r ≡ block_comment q b (folded_from s p) → h ≡ passed_by b s p → r ≡ block_comment q b (folded_from s h)
block_past q b s p h e g = rw g (e ∙ block_passes q b s p)

pub passed_beyond : (b : Block) (s : List ℕ) (p : Place) → p.0 ≤ (passed_by b s p).0
unfolding passed_by
passed_beyond (Block.Other d) s p = plain_beyond s block_stops p
passed_beyond (Block.Slash d) s p = omega arith
passed_beyond (Block.Star d) s p = omega arith

-- a turn keeps a comment one deep at least, and makes it one deeper at most
seen_depth : (d c : ℕ) → depth_of (seen d c) ≡ d
unfolding seen depth_of
seen_depth d c = go (eqb c 47) (eqb c 42)
  where
    go : (t u : Bool) → depth_of (if t then Block.Slash d else (if u then Block.Star d else Block.Other d)) ≡ d
    go true u = refl
    go false true = refl
    go false false = refl

pub turn_depth : (b : Block) (c : ℕ) (a : Block) → 1 ≤ depth_of b → block_turn b c ≡ Some a → (1 ≤ depth_of a) × (depth_of a ≤ depth_of b + 1)
unfolding block_turn depth_of
turn_depth (Block.Other d) c a h e =
    let w : seen d c ≡ a = cc in
    rw (← w) (omega (arith, seen_depth d c))
turn_depth (Block.Slash d) c a h e = go (eqb c 42) e
  where
    go : (t : Bool) → Some (if t then Block.Other (d + 1) else seen d c) ≡ Some a → (1 ≤ depth_of a) × (depth_of a ≤ d + 1)
    go true e = let w : Block.Other (d + 1) ≡ a = cc in rw (← w) (omega arith)
    go false e = let w : seen d c ≡ a = cc in rw (← w) (omega (arith, seen_depth d c))
turn_depth (Block.Star d) c a h e = go (eqb c 47) (eqb d 1) refl e
  where
    go : (t u : Bool) → eqb d 1 ≡ u → (if t then (if u then None else Some (Block.Other (d - 1))) else Some (seen d c)) ≡ Some a
        → (1 ≤ depth_of a) × (depth_of a ≤ d + 1)
    go true true o e = absurd (cc)
    go true false o e = let w : Block.Other (d - 1) ≡ a = cc in rw (← w) (omega (arith, eqb-false d 1 o))
    go false u o e = let w : seen d c ≡ a = cc in rw (← w) (omega (arith, seen_depth d c))

-- a block comment ends at a place of the view too
block_among : (q : Position) (v : Chars) (b : Block) (n : Place) → block_comment q b v ≡ Ok n → Among v n
unfolding block_comment block_on
block_among q (end r) b n e = absurd (stopped_not e)
block_among q (ill i) b n e = absurd (stopped_not e)
block_among q (char r c v) b n e = inr (go (block_turn b c) e (λ a. block_among q v a n))
  where
    go : (a : Option Block) → block_on a v (λ next. block_comment q next v) ≡ Ok n → ((a : Block) → block_comment q a v ≡ Ok n → Among v n) → Among v n
    go (Some a) e ih = ih a e
    go None e ih = first_among v n (to_is e)

pub block_to : (q : Position) (b : Block) (s : List ℕ) (p : Place) → p.0 ≤ length s
    → (n : Place) → block_comment q b (folded_from s p) ≡ Ok n → (p.0 ≤ n.0) × (n.0 ≤ length s)
block_to q b s p l n e = view_within s p l n (block_among q (folded_from s p) b n e)
