-- The walk of a listing: what it holds on the way, and that what it delivers is the listing.
use Rattle.std.specs.Prelude.{None, Some, Ok, Err, if◌then◌else◌}
use Prim.Native.Nat.{ℕ, suc, ◌+◌, ◌*◌, ◌≤◌, ◌<◌}
use mathlib.Core.Path.{◌≡◌, refl, sym, ap, subst, ◌∙◌}
use mathlib.Core.Bool.{Bool, true, false}
use mathlib.Core.List.{List, [], ◌∷◌, ◌++◌, append-nil, append_assoc}
use native.Mathlib.Omega.{arith}
use native.Mathlib.Nat.{add-zero}
use lib.ListN.{length, set, take, drop, length-append, length-take, length-drop, take-append-drop}
use lib.Dec.{leb}
use Rattle.kinds.specs.Kinds.{kind_of}
use lib.Seq.{take_at, drop_at, drop-drop, sets-eq}
use borrow.Author.Tests.{le-leb, lt-leb, leb-true}
use Rattle.terms.specs.Terms.{over}
use Rattle.answers.specs.declared.Place.{Place}
use Rattle.answers.specs.declared.Span.{Span}
use Rattle.answers.specs.declared.Refusal.{Refusal}
use Rattle.answers.specs.declared.Refusal.TheVariants.{TooManyRows, NoRoom}
use Rattle.kinds.specs.declared.Token.{Token}
use Rattle.tokens.specs.declared.Lexeme.{Lexeme}
use Rattle.tokens.specs.Tokens.{raw_at}
use Rattle.tokens.proofs.TokenLaws.{raw_goes}
use Rattle.steps.specs.Stream.{tokens_from}
use Rattle.steps.proofs.StreamLaws.{tokens_done, tokens_stop, tokens_token}
use Rattle.listing.specs.declared.Listing.{Listing}
use Rattle.listing.specs.Rows.{Row, Rows, rows, refused, row_words, words_of, all_words, keeps, ahead, row_of, rows_of}
use Rattle.listing.specs.Listings.{Listed, row_cap, tabled}
use Rattle.listing.specs.inner.Staging.{put, laid, counted, Staged, delivered}

-- the words of rows, counted and joined
pub length_words : (rs : List Row) → length (all_words rs) ≡ length rs * row_words
unfolding all_words words_of
length_words [] = refl
length_words (r ∷ rs) = let ih = length_words rs in omega arith

pub words_both : (rs qs : List Row) → all_words (rs ++ qs) ≡ all_words rs ++ all_words qs
unfolding all_words words_of
words_both [] qs = refl
words_both (r ∷ rs) qs = rw (words_both rs qs)

-- rows ahead of rows ahead of rows
ahead_both : (rs qs : List Row) (r : Rows) → ahead rs (ahead qs r) ≡ ahead (rs ++ qs) r
unfolding ahead
ahead_both rs qs (rows ps) = rw append_assoc
ahead_both rs qs (refused f) = refl

pub ahead_none : (r : Rows) → ahead [] r ≡ r
unfolding ahead
ahead_none (rows rs) = refl
ahead_none (refused f) = refl

-- what is put behind the front of a buffer makes the front longer
put_over : (xs ys b : List ℕ) → put (length xs) ys (over xs b) ≡ over (xs ++ ys) b
unfolding put
put_over xs ys b =
    let t : take (length xs) (xs ++ drop (length xs) b) ≡ xs = take_at xs (drop (length xs) b) (length xs) refl in
    let u : drop (length xs) (xs ++ drop (length xs) b) ≡ drop (length xs) b = drop_at xs (drop (length xs) b) (length xs) refl in
    rw (t, ← drop-drop (length ys) (length xs) (xs ++ drop (length xs) b), u, drop-drop, length-append, append_assoc)

put_none : (at : ℕ) (b : List ℕ) → put at [] b ≡ b
unfolding put
put_none at b = rw (add-zero, take-append-drop)

-- the words of a row, one by one
pub put_words : (at : ℕ) (r : Row) (b : List ℕ) → at + row_words ≤ length b
    → set (set (set b at (kind_of r.kind)) (at + 1) r.span.start.0) (at + 2) r.span.end.0 ≡ put at (words_of r) b
unfolding put words_of
put_words at r b h =
    let one : at + 1 ≡ suc at = omega arith in
    let two : at + 2 ≡ suc (suc at) = omega arith in
    rw (one, two) (sets-eq (kind_of r.kind ∷ r.span.start.0 ∷ r.span.end.0 ∷ []) b at h ∙ append_assoc (take at b) (kind_of r.kind ∷ r.span.start.0 ∷ r.span.end.0 ∷ []) (drop (at + 3) b))

-- a token's row: there is none, there is no room for it, or it is put
module _ (l : Listing) (kind : Token) (span : Span) (n : ℕ) (stage : List ℕ) where
  pub laid_not : keeps l kind ≡ false → (n, stage) ≡ laid (row_of l kind span) n stage
  unfolding laid row_of all_words
  laid_not e = rw (e, add-zero) (go (leb (n * row_words) (length stage)))
    where
      go : (u : Bool) → ◌≡◌ {A = ℕ × List ℕ} (n, stage) (n, if u then put (n * row_words) [] stage else stage)
      go true = rw put_none
      go false = refl

  pub laid_full : keeps l kind ≡ true → length stage < n * row_words + row_words → (n + 1, stage) ≡ laid (row_of l kind span) n stage
  unfolding laid row_of
  laid_full e h = rw (e, lt-leb ((n + 1) * row_words) (length stage) (omega (arith, h)))

  pub laid_row : keeps l kind ≡ true → n * row_words + row_words ≤ length stage
      → (n + 1, put (n * row_words) (words_of (record { kind = kind; span = span })) stage) ≡ laid (row_of l kind span) n stage
  unfolding laid row_of all_words words_of
  laid_row e h = rw (e, le-leb ((n + 1) * row_words) (length stage) (omega (arith, h)))

-- on the way: rows that are done are ahead of those from here on, and the stage holds them if it can
pub record Walked (l : Listing) (s : List ℕ) (o : ℕ) (from at : Place) (count : ℕ) (before after : List ℕ) : Type 0 where
  pub done : List Row
  pub so_far : rows_of l (tokens_from s o from) ≡ ahead done (rows_of l (tokens_from s o at))
  pub counts : count ≡ length done
  pub few : count ≤ at.0
  pub inside : at.0 ≤ length s
  pub as_long : length after ≡ length before
  pub holds : count * row_words ≤ length before → after ≡ over (all_words done) before

length_put : (at : ℕ) (xs b : List ℕ) → at + length xs ≤ length b → length (put at xs b) ≡ length b
unfolding put
length_put at xs b h = rw (length-append, length-take, length-append, length-drop) (omega arith)

row_one : (l : Listing) (kind : Token) (span : Span) → length (row_of l kind span) ≤ 1
unfolding row_of
row_one l kind span = go (keeps l kind)
  where
    go : (t : Bool) → length {A = Row} (if t then record { kind = kind; span = span } ∷ [] else []) ≤ 1
    go true = omega arith
    go false = omega arith

-- the parts of an answer
count_of : Listed → ℕ
count_of (Ok n) = n
count_of (Err f) = 0

unfoldable pub list_of : Rows → List Row
list_of (rows rs) = rs
list_of (refused f) = []

refused_counts : (f : Refusal) (n : ℕ) → ◌≡◌ {A = Listed} (Err f) (Ok n) → ⊥
refused_counts f n e = let z : ◌≡◌ {A = ℕ} 0 1 = cc in omega arith

pub refused_rows : (f : Refusal) (rs : List Row) → refused f ≡ rows rs → ⊥
refused_rows f rs e = let z : ◌≡◌ {A = ℕ} 0 1 = cc in omega arith

module _ (l : Listing) (s : List ℕ) (o : ℕ) (from : Place) (before : List ℕ) where
  pub walked_start : from.0 ≤ length s → Walked l s o from from 0 before before
  unfolding all_words
  walked_start h = record { done = []; so_far = sym (ahead_none _); counts = refl; few = omega arith; inside = h; as_long = refl; holds = λ g. refl }

  module _ (at : Place) (count : ℕ) (after : List ℕ) (w : Walked l s o from at count before after) where
    ended : raw_at s o at ≡ Ok None → rows_of l (tokens_from s o from) ≡ rows w.done
    unfolding rows_of ahead
    ended e = w.so_far ∙ rw (tokens_done s o at e, append-nil)

    pub walked_end : raw_at s o at ≡ Ok None → Staged (length s) (rows_of l (tokens_from s o from)) (Ok count) before after
    unfolding counted count_of list_of
    walked_end e =
        record {
          counts = rw (ended e) (ap Ok w.counts);
          few = λ n c. let same : count ≡ n = ap count_of c in omega (arith, w.few, w.inside);
          as_long = w.as_long;
          holds = λ rs r h.
              let same : w.done ≡ rs = ap list_of (sym (ended e) ∙ r) in
              w.holds (let k = ap length same in omega (arith, k, w.counts, h)) ∙ rw same;
        }

    pub walked_refused : (f : Refusal) → raw_at s o at ≡ Err f → Staged (length s) (rows_of l (tokens_from s o from)) (Err f) before after
    unfolding rows_of ahead counted
    walked_refused f e =
        let r : rows_of l (tokens_from s o from) ≡ refused f = w.so_far ∙ rw (tokens_stop s o at f e) in
        record {
          counts = rw r;
          few = λ n c. absurd (refused_counts f n c);
          as_long = w.as_long;
          holds = λ rs q h. absurd (refused_rows f rs (sym r ∙ q));
        }

    pub walked_on : (t : Lexeme) → raw_at s o at ≡ Ok (Some t) → (count' : ℕ) (after' : List ℕ)
        → (count', after') ≡ laid (row_of l t.kind t.span) count after → Walked l s o from t.next count' before after'
    unfolding rows_of laid
    walked_on t e count' after' z =
        let g = raw_goes s o at t.kind t.span t.next e in
        let row : List Row = row_of l t.kind t.span in
        let m : count' ≡ count + length row = ap (λ (x : ℕ × List ℕ). x.0) z in
        let q : after' ≡ (if leb ((count + length row) * row_words) (length after) then put (count * row_words) (all_words row) after else after) = ap (λ (x : ℕ × List ℕ). x.1) z in
        record {
          done = w.done ++ row;
          so_far = w.so_far ∙ rw (tokens_token s o at t e) (ahead_both w.done row (rows_of l (tokens_from s o t.next)));
          counts = rw (m, length-append) (omega (arith, w.counts));
          few = omega (arith, m, row_one l t.kind t.span, g.beyond, w.few);
          inside = g.inside;
          as_long = rw q (long (leb ((count + length row) * row_words) (length after)) refl);
          holds = λ h. q ∙ hold (subst (λ (k : ℕ). k * row_words ≤ length before) m h);
        }
      where
        long : (u : Bool) → leb ((count + length (row_of l t.kind t.span)) * row_words) (length after) ≡ u
            → length (if u then put (count * row_words) (all_words (row_of l t.kind t.span)) after else after) ≡ length before
        long true y =
            let k : (count + length (row_of l t.kind t.span)) * row_words ≤ length after = leb-true _ _ y in
            length_put (count * row_words) (all_words (row_of l t.kind t.span)) after (omega (arith, k, length_words (row_of l t.kind t.span))) ∙ w.as_long
        long false y = w.as_long

        hold : (count + length (row_of l t.kind t.span)) * row_words ≤ length before
            → (if leb ((count + length (row_of l t.kind t.span)) * row_words) (length after) then put (count * row_words) (all_words (row_of l t.kind t.span)) after else after)
            ≡ over (all_words (w.done ++ row_of l t.kind t.span)) before
        hold h =
            let room : (count + length (row_of l t.kind t.span)) * row_words ≤ length after = omega (arith, h, w.as_long) in
            let k : count * row_words ≡ length (all_words w.done) = sym (length_words w.done ∙ rw w.counts) in
            rw (le-leb _ _ room, w.holds (omega (arith, h)), words_both, k) (put_over (all_words w.done) (all_words (row_of l t.kind t.span)) before)

-- a stage that has room for any count it can be asked for delivers the listing
module _ (bytes : ℕ) (r : Rows) (answer : Listed) (before after : List ℕ) (g : Staged bytes r answer before after)
    (room : (n : ℕ) → answer ≡ Ok n → n ≤ row_cap → n * row_words ≤ length before) where
  pub staged_tabled : (table : List ℕ) → delivered answer after table ≡ tabled r table
  unfolding delivered tabled counted
  staged_tabled table = rw g.counts (by r refl)
    where
      front : (rs : List Row) → r ≡ rows rs → length rs ≤ row_cap → take (length rs * row_words) after ≡ all_words rs
      front rs e h =
          let k = room (length rs) (g.counts ∙ ap counted e) h in
          rw (g.holds rs e k) (take_at (all_words rs) (drop (length (all_words rs)) before) (length rs * row_words) (length_words rs))

      -- under the cap the two write the same, and over it neither writes
      same : (rs : List Row) → r ≡ rows rs → (under room : Bool) → leb (length rs) row_cap ≡ under
          → ◌≡◌ {A = Listed × List ℕ}
          (if under then (if room then (Ok (length rs), take (length rs * row_words) after ++ drop (length rs * row_words) table) else (Err (NoRoom (length rs * row_words)), table)) else (Err (TooManyRows (length rs)), table))
          (if under then (if room then (Ok (length rs), over (all_words rs) table) else (Err (NoRoom (length rs * row_words)), table)) else (Err (TooManyRows (length rs)), table))
      same rs e true true y = rw (front rs e (leb-true _ _ y), length_words rs)
      same rs e true false y = refl
      same rs e false room y = refl

      by : (q : Rows) → r ≡ q → delivered (counted q) after table ≡ tabled q table
      by (rows rs) e = same rs e (leb (length rs) row_cap) (leb (length rs * row_words) (length table)) refl
      by (refused f) e = refl
