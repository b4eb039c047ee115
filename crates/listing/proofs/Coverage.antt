-- THE THEOREMS of whole listings: raw rows cover the text, filtered rows are the raw rows without blanks and comments, and next answers them one by one.
use Rattle.std.specs.Prelude.{None, Some, Ok, Err, if◌then◌else◌}
use Prim.Native.Nat.{ℕ, zero, suc, ◌+◌, ◌-◌, ◌<◌}
use mathlib.Core.Path.{◌≡◌, refl, sym, ap, subst, ◌∙◌}
use mathlib.Core.Bool.{Bool, true, false, not}
use mathlib.Core.List.{List, [], ◌∷◌, ◌++◌}
use native.Mathlib.Omega.{arith}
use lib.ListN.{length}
use borrow.Author.Tests.{eq-eqb, lt-ltb}
use Rattle.answers.specs.declared.Place.{Place}
use Rattle.answers.specs.declared.Span.{Span}
use Rattle.answers.specs.Places.{place}
use Rattle.answers.proofs.CapsLaws.{in_map_lem}
use Rattle.tokens.specs.declared.Lexeme.{Lexeme}
use Rattle.tokens.specs.Tokens.{Raw, raw_at}
use Rattle.tokens.proofs.TokenLaws.{raw_goes, raw_end_at}
use Rattle.steps.specs.Stream.{Tokens, done, stop, token, tokens_from}
use Rattle.steps.specs.Steps.{Opened, opened, is_blank, moved, next_step, next_at}
use Rattle.steps.proofs.StreamLaws.{tokens_done, tokens_stop, tokens_token}
use Rattle.steps.proofs.StepLaws.{Stands, opened_in, next_fits, next_end, next_blank, next_token}
use Rattle.listing.specs.declared.Listing.{Listing}
use Rattle.listing.specs.Rows.{Row, Rows, rows, refused, keeps, ahead, row_of, rows_of, rows_by, text_rows}
use Rattle.listing.specs.Coverage.{covers, unblanked, unblanked_rows, Stepped}
use Rattle.listing.proofs.StageLaws.{ahead_none, refused_rows, list_of}
use Rattle.listing.proofs.ListingLaws.{rows_at}

-- rows ahead of others are rows only where the others are
behind : (rs : List Row) (r : Rows) (qs : List Row) → ahead rs r ≡ rows qs → (ps : List Row) × (r ≡ rows ps) × (rs ++ ps ≡ qs)
unfolding ahead list_of
behind rs (rows ps) qs e = (ps, refl, ap list_of e)
behind rs (refused f) qs e = absurd (refused_rows f qs e)

-- a row ahead of rows that cover the rest
cover_more : (at mid last : ℕ) (r : Row) (rs : List Row) → r.span.start.0 ≡ at → r.span.end.0 ≡ mid → at < mid → covers mid last rs ≡ true
    → covers at last (r ∷ rs) ≡ true
unfolding covers
cover_more at mid last r rs a b l c = rw (b, eq-eqb r.span.start.0 at a, lt-ltb at mid l) c

module _ (s : List ℕ) (o : ℕ) where
  end_at : (p : Place) → Stands s o p → raw_at s o p ≡ Ok None → p.0 ≡ length s
  end_at p w e = omega (arith, w.within, raw_end_at s o p w.fits.short e)

  onward : (p : Place) → Stands s o p → (t : Lexeme) → raw_at s o p ≡ Ok (Some t) → Stands s o t.next
  onward p w t e = record { fits = w.fits; within = (raw_goes s o p t.kind t.span t.next e).inside }

  -- COVERAGE, from a place on
  covered : (k : ℕ) (p : Place) → length s - p.0 < k → Stands s o p → (rs : List Row) → rows_of Listing.Raw (tokens_from s o p) ≡ rows rs
      → covers (o + p.0) (o + length s) rs ≡ true
  unfolding covers rows_of row_of keeps list_of
  covered zero p h w rs r = absurd (omega arith)
  covered (suc k) p h w rs r = go (raw_at s o p) refl (λ n. covered k n)
    where
      go : (x : Raw) → raw_at s o p ≡ x
          → ((n : Place) → length s - n.0 < k → Stands s o n → (qs : List Row) → rows_of Listing.Raw (tokens_from s o n) ≡ rows qs → covers (o + n.0) (o + length s) qs ≡ true)
          → covers (o + p.0) (o + length s) rs ≡ true
      go (Ok None) e ih =
          let none : [] ≡ rs = ap list_of (sym (ap (rows_of Listing.Raw) (tokens_done s o p e)) ∙ r) in
          let z : o + p.0 ≡ o + length s = omega (arith, end_at p w e) in
          rw (← none) (eq-eqb (o + p.0) (o + length s) z)
      go (Err f) e ih = absurd (refused_rows f rs (sym (ap (rows_of Listing.Raw) (tokens_stop s o p f e)) ∙ r))
      go (Ok (Some t)) e ih =
          let n = t.next in
          let row : Row = record { kind = t.kind; span = t.span } in
          let g = raw_goes s o p t.kind t.span n e in
          let b = behind (row ∷ []) (rows_of Listing.Raw (tokens_from s o n)) rs (sym (ap (rows_of Listing.Raw) (tokens_token s o p t e)) ∙ r) in
          let from : t.span.start.0 ≡ o + p.0 = ap (λ (x : Span). x.start.0) g.spans ∙ in_map_lem o p (omega (arith, w.fits.mapped, w.within)) in
          let last : t.span.end.0 ≡ o + n.0 = ap (λ (x : Span). x.end.0) g.spans ∙ in_map_lem o n (omega (arith, w.fits.mapped, g.inside)) in
          subst (λ (qs : List Row). covers (o + p.0) (o + length s) qs ≡ true) b.2
          (cover_more (o + p.0) (o + n.0) (o + length s) row b.0 from last (omega (arith, g.beyond))
          (ih n (omega (arith, g.beyond, g.inside)) (onward p w t e) b.0 b.1))

  -- STEPPING, from a place on: where no refusal comes, next forgets where it began
  forgets : (t : Tokens) (p q : Place) (rs : List Row) → rows_of Listing.Filtered t ≡ rows rs → next_step p t ≡ next_step q t
  unfolding rows_of row_of keeps next_step
  forgets (done e) p q rs r = refl
  forgets (stop f) p q rs r = absurd (refused_rows f rs r)
  forgets (token kind span n t) p q rs r = go (is_blank kind) r (λ qs. forgets t p q qs)
    where
      go : (u : Bool) → ahead (if not u then record { kind = kind; span = span } ∷ [] else []) (rows_of Listing.Filtered t) ≡ rows rs
          → ((qs : List Row) → rows_of Listing.Filtered t ≡ rows qs → next_step p t ≡ next_step q t)
          → (if u then next_step p t else moved (Ok (Some (kind, span))) n) ≡ (if u then next_step q t else moved (Ok (Some (kind, span))) n)
      go true e ih = ih rs (sym (ahead_none _) ∙ e)
      go false e ih = refl

  -- a place from which next answers the same
  as_next : (p n : Place) → next_at s o p ≡ next_at s o n → (rs : List Row) → Stepped s o n rs → Stepped s o p rs
  unfolding Stepped
  as_next p n e [] w = e ∙ w
  as_next p n e (r ∷ rs) w = (w.0, e ∙ w.1, w.2)

  stepped : (k : ℕ) (p : Place) → length s - p.0 < k → Stands s o p → (rs : List Row) → rows_of Listing.Filtered (tokens_from s o p) ≡ rows rs → Stepped s o p rs
  unfolding Stepped rows_of row_of keeps list_of
  stepped zero p h w rs r = absurd (omega arith)
  stepped (suc k) p h w rs r = go (raw_at s o p) refl (λ n. stepped k n)
    where
      go : (x : Raw) → raw_at s o p ≡ x
          → ((n : Place) → length s - n.0 < k → Stands s o n → (qs : List Row) → rows_of Listing.Filtered (tokens_from s o n) ≡ rows qs → Stepped s o n qs)
          → Stepped s o p rs
      go (Ok None) e ih =
          let none : [] ≡ rs = ap list_of (sym (ap (rows_of Listing.Filtered) (tokens_done s o p e)) ∙ r) in
          subst (Stepped s o p) none (next_fits s o p w ∙ next_end p s o p e ∙ ap (λ (k : ℕ). moved (Ok None) (place k)) (end_at p w e))
      go (Err f) e ih = absurd (refused_rows f rs (sym (ap (rows_of Listing.Filtered) (tokens_stop s o p f e)) ∙ r))
      go (Ok (Some t)) e ih = by (is_blank t.kind) refl (sym (ap (rows_of Listing.Filtered) (tokens_token s o p t e)) ∙ r)
        where
          by : (u : Bool) → is_blank t.kind ≡ u
              → ahead (if not u then record { kind = t.kind; span = t.span } ∷ [] else []) (rows_of Listing.Filtered (tokens_from s o t.next)) ≡ rows rs → Stepped s o p rs
          by true y q =
              let n = t.next in
              let g = raw_goes s o p t.kind t.span n e in
              let m = onward p w t e in
              let same : rows_of Listing.Filtered (tokens_from s o n) ≡ rows rs = sym (ahead_none (rows_of Listing.Filtered (tokens_from s o n))) ∙ q in
              as_next p n
              (next_fits s o p w ∙ next_blank p s o p t e y ∙ forgets (tokens_from s o n) p n rs same ∙ sym (next_fits s o n m))
              rs (ih n (omega (arith, g.beyond, g.inside)) m rs same)
          by false y q =
              let n = t.next in
              let g = raw_goes s o p t.kind t.span n e in
              let b = behind (record { kind = t.kind; span = t.span } ∷ []) (rows_of Listing.Filtered (tokens_from s o n)) rs q in
              subst (Stepped s o p) b.2
              (n, next_fits s o p w ∙ next_token p s o p t e y, ih n (omega (arith, g.beyond, g.inside)) (onward p w t e) b.0 b.1)

  -- THE THEOREMS, of a text that is opened at p
  module _ (p : Place) (e : opened s o ≡ Ok p) where
    -- the raw rows of an accepted text cover it, from the cursor of opening to its end
    pub coverage : (rs : List Row) → text_rows Listing.Raw s o ≡ rows rs → covers (o + p.0) (o + length s) rs ≡ true
    coverage rs r = covered (suc (length s - p.0)) p (omega arith) (opened_in s o p e) rs (sym (rows_at Listing.Raw s o p e) ∙ r)

    -- next from the cursor of opening answers the filtered rows one by one
    pub stepping : (rs : List Row) → text_rows Listing.Filtered s o ≡ rows rs → Stepped s o p rs
    stepping rs r = stepped (suc (length s - p.0)) p (omega arith) (opened_in s o p e) rs (sym (rows_at Listing.Filtered s o p e) ∙ r)

-- filtered rows are the raw rows without blanks and comments
without : (t : Tokens) → rows_of Listing.Filtered t ≡ unblanked_rows (rows_of Listing.Raw t)
unfolding rows_of row_of keeps ahead unblanked_rows unblanked
without (done p) = refl
without (stop f) = refl
without (token kind span n t) = rw (without t) (go (rows_of Listing.Raw t))
  where
    row : (u : Bool) (r : Row) → (if not u then r ∷ [] else []) ≡ (if u then [] else r ∷ [])
    row true r = refl
    row false r = refl

    go : (r : Rows) → ahead (row_of Listing.Filtered kind span) (unblanked_rows r) ≡ unblanked_rows (ahead (row_of Listing.Raw kind span) r)
    go (rows rs) = rw (row (is_blank kind) (record { kind = kind; span = span }))
    go (refused f) = refl

pub filtered : (s : List ℕ) (o : ℕ) → text_rows Listing.Filtered s o ≡ unblanked_rows (text_rows Listing.Raw s o)
unfolding text_rows rows_by unblanked_rows
filtered s o = go (opened s o)
  where
    go : (r : Opened) → rows_by Listing.Filtered s o r ≡ unblanked_rows (rows_by Listing.Raw s o r)
    go (Ok p) = without (tokens_from s o p)
    go (Err f) = refl
