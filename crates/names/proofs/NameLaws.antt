-- What the checks of a span decide, and where an identifier lies.
use Rattle.std.specs.Prelude.{Ok, Err, if◌then◌else◌}
use Rattle.std.proofs.Common.{◌≡◌, ℕ, ◌+◌, ◌<◌, ◌≤◌, Bool, true, false, ◌&&◌, ◌||◌, eqb, ltb, List, length, refl, arith, ltb-false, ltb-true}
use Rattle.answers.specs.declared.Span.{Span}
use Rattle.answers.specs.declared.Refusal.{Refusal}
use Rattle.answers.specs.Caps.{Verdict, accepted, text_verdict}
use Rattle.answers.proofs.CapsLaws.{refused_not, first_both}
use Rattle.chars.specs.Utf8.{byte_at, on_by}
use Rattle.names.specs.Names.{start_in, end_in, cut, span_verdict, percent_verdict, plain_verdict, explicit_verdict, named_by, plain_id, explicit_id}
use Rattle.names.specs.inner.Within.{Within}

-- where an accepted span lies
pub record Lies (s : List ℕ) (o : ℕ) (span : Span) : Type 0 where
  pub behind : o ≤ span.start.0
  pub forward : span.start.0 ≤ span.end.0
  pub inside : span.end.0 ≤ o + length s

pub span_lies : (s : List ℕ) (o : ℕ) (span : Span) → span_verdict s o span ≡ accepted → Lies s o span
unfolding span_verdict
span_lies s o span e =
    go (ltb span.start.0 o) refl (ltb span.end.0 span.start.0) refl (ltb (o + length s) span.end.0) refl
    (cut s (start_in o span) || cut s (end_in o span)) e
  where
    go : (a : Bool) → ltb span.start.0 o ≡ a → (b : Bool) → ltb span.end.0 span.start.0 ≡ b
        → (d : Bool) → ltb (o + length s) span.end.0 ≡ d → (f : Bool)
        → (if a || (b || (d || f)) then Err Refusal.BadSpan else accepted) ≡ accepted → Lies s o span
    go true ha b hb d hd f e = absurd (refused_not e)
    go false ha true hb d hd f e = absurd (refused_not e)
    go false ha false hb true hd f e = absurd (refused_not e)
    go false ha false hb false hd f e =
        record { behind = ltb-false _ _ ha; forward = ltb-false _ _ hb; inside = ltb-false _ _ hd }

-- where an accepted explicit span begins: before its end
pub percent_leads : (s : List ℕ) (o : ℕ) (span : Span) → percent_verdict s o span ≡ accepted → span.start.0 < span.end.0
unfolding percent_verdict
percent_leads s o span e = go (ltb span.start.0 span.end.0) refl e
  where
    go : (a : Bool) → ltb span.start.0 span.end.0 ≡ a
        → (if a && eqb (byte_at s (start_in o span)) 0x25 then accepted else Err Refusal.BadSpan) ≡ accepted → span.start.0 < span.end.0
    go true h e = ltb-true _ _ h
    go false h e = absurd (refused_not e)

-- an identifier lies in the text
pub plain_within : (s : List ℕ) (o : ℕ) (span : Span) → Within s (plain_id s o span)
unfolding plain_id plain_verdict named_by
plain_within s o span = go (plain_verdict s o span) refl
  where
    go : (v : Verdict) → plain_verdict s o span ≡ v → Within s (named_by v (start_in o span) (end_in o span))
    go (Ok _) e =
        let l = span_lies s o span (first_both (span_verdict s o span) _ (first_both (text_verdict o (length s)) _ e).1).0 in
        (omega arith, omega arith)
    go (Err f) e = tt

pub explicit_within : (s : List ℕ) (o : ℕ) (span : Span) → Within s (explicit_id s o span)
unfolding explicit_id explicit_verdict named_by
explicit_within s o span = go (explicit_verdict s o span) refl
  where
    go : (v : Verdict) → explicit_verdict s o span ≡ v → Within s (named_by v (on_by 1 (start_in o span)) (end_in o span))
    go (Ok _) e =
        let b = first_both (span_verdict s o span) _ (first_both (text_verdict o (length s)) _ e).1 in
        let l = span_lies s o span b.0 in
        let k = percent_leads s o span (first_both (percent_verdict s o span) _ b.1).0 in
        (omega arith, omega arith)
    go (Err f) e = tt
