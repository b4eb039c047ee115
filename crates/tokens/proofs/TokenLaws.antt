-- The laws of one token, for the rooms above: it ends beyond its start and within the text, and it depends only on the text from its place on.
use Rattle.std.specs.Prelude.{if◌then◌else◌}
use Prim.Native.Nat.{ℕ, ◌≤◌, ◌<◌}
use mathlib.Core.Path.{◌≡◌, refl, sym, ap, ◌∙◌}
use mathlib.Core.Bool.{Bool, true, false}
use mathlib.Core.List.{List}
use native.Mathlib.Omega.{arith}
use lib.ListN.{length}
use lib.Dec.{eqb}
use Rattle.answers.specs.declared.Place.{Place}
use Rattle.answers.specs.declared.Ill.{Ill as Sequence}
use Rattle.answers.specs.declared.Span.{Span}
use Rattle.answers.specs.declared.Refusal.{Refusal}
use Rattle.answers.specs.Places.{in_map}
use Rattle.answers.specs.Caps.{cap}
use Rattle.chars.specs.Utf8.{Read}
use Rattle.std.specs.Prelude.{None, Some, Result, Ok, Err}
use Rattle.chars.specs.View.{Chars, end, ill, char, place_of, folded_at, folded_from}
use Rattle.classes.specs.Classes.{keylike_start, keylike_continue}
use Rattle.chars.proofs.ViewLaws.{folded_end, folded_ill, folded_char, folded_place, folded_onward, folded_end_at}
use Rattle.chars.proofs.LocalLaws.{Alike, view_alike}
use Rattle.strings.specs.declared.Literal.{Literal}
use Rattle.strings.specs.Strings.{string_literal}
use Rattle.strings.proofs.StringLaws.{closing}
use Rattle.strings.proofs.LocalLaws.{literal_alike}
use Rattle.kinds.specs.declared.Token.{Token}
use Rattle.runs.specs.declared.Block.{Block}
use Rattle.runs.specs.Comments.{Ran, blank, digit, run, line_comment, block_comment}
use Rattle.runs.proofs.RunLaws.{run_to}
use Rattle.runs.proofs.CommentLaws.{line_to, block_to}
use Rattle.tokens.specs.declared.Lexeme.{Lexeme}
use Rattle.tokens.specs.declared.Rule.{Rule}
use Rattle.tokens.specs.declared.Rule.TheVariants.{Blanks, Slash, Dash, Percent, Quote, Digits, Word, Mark, Classed}
use Rattle.tokens.specs.Tokens.{Raw, Lexed, rule_of, as_token, slash_rule, dash_rule, percent_rule, as_word, as_string, lexed_by, spanned, raw_of, raw_at}

as_is : {j k : Token} {m n : Place} → ◌≡◌ {A = Lexed} (Ok (j, m)) (Ok (k, n)) → m ≡ n
as_is {j} {k} {m} {n} e = let z : ◌≡◌ {A = Token × Place} (j, m) (k, n) = cc in ap (λ (x : Token × Place). x.1) z

not_as : {f : Refusal} {k : Token} {n : Place} → ◌≡◌ {A = Lexed} (Err f) (Ok (k, n)) → ⊥
not_as e = let z : ◌≡◌ {A = ℕ} 0 1 = cc in omega arith

-- where a rule ends that goes on from m: not before m, and within the text
abbrev Ends : List ℕ → Place → Place → Type 0
Ends s m n = (m.0 ≤ n.0) × (n.0 ≤ length s)

module _ (s : List ℕ) (o : ℕ) (p m : Place) (l : m.0 ≤ length s) (k : Token) (n : Place) where
  here : (j : Token) (q : Place) → q ≡ m → ◌≡◌ {A = Lexed} (Ok (j, q)) (Ok (k, n)) → Ends s m n
  here j q h e = let a : m.0 ≡ n.0 = ap (λ (x : Place). x.0) (sym h ∙ as_is e) in omega arith

  token_to : (j : Token) (r : Ran) → ((i : Place) → r ≡ Ok i → Ends s m i) → as_token j r ≡ Ok (k, n) → Ends s m n
  unfolding as_token
  token_to j (Ok i) h e = rw (← as_is e) (h i refl)
  token_to j (Err f) h e = absurd (not_as e)

  word_to : (r : Ran) → ((i : Place) → r ≡ Ok i → Ends s m i) → as_word s p r ≡ Ok (k, n) → Ends s m n
  unfolding as_word
  word_to (Ok i) h e = rw (← as_is e) (h i refl)
  word_to (Err f) h e = absurd (not_as e)

  string_to : as_string (string_literal s o (in_map o p) m) ≡ Ok (k, n) → Ends s m n
  unfolding as_string
  string_to e = go (string_literal s o (in_map o p) m) refl e
    where
      go : (r : Result Literal Refusal) → string_literal s o (in_map o p) m ≡ r → as_string r ≡ Ok (k, n) → Ends s m n
      go (Ok l) h e =
          let r = closing s o (in_map o p) m l h in
          let a : l.end.0 ≡ n.0 = ap (λ (x : Place). x.0) (as_is e) in (omega (arith, r.beyond), omega (arith, r.inside))
      go (Err f) h e = absurd (not_as e)

  -- a run or a comment behind the next character
  behind : (c : ℕ) (i : Place) → folded_at s m ≡ Ok (Some (c, i)) → (j : Token) (r : Ran)
      → (i.0 ≤ length s → (x : Place) → r ≡ Ok x → Ends s i x) → as_token j r ≡ Ok (k, n) → Ends s m n
  behind c i h j r to_end =
      let g = folded_onward s m c i h in
      token_to j r (λ x q. omega (arith, g.beyond, to_end g.inside x q))

  -- a rule that looks at the next character: it ends before it, where there is none, and is refused where it is ill-formed
  looks : (f : Chars → Lexed) (j : Token) → f (end m) ≡ Ok (j, m) → ((i : Sequence) → f (ill i) ≡ Err (Refusal.IllFormed i))
      → ((c : ℕ) (i : Place) → folded_at s m ≡ Ok (Some (c, i)) → f (char m c (folded_from s i)) ≡ Ok (k, n) → Ends s m n)
      → f (folded_from s m) ≡ Ok (k, n) → Ends s m n
  looks f j at-end at-ill at-char e = go (folded_at s m) refl
    where
      go : (r : Read) → folded_at s m ≡ r → Ends s m n
      go (Ok None) h = here j m refl (sym at-end ∙ ap f (sym (folded_end s m h)) ∙ e)
      go (Err i) h = absurd (not_as (sym (at-ill i) ∙ ap f (sym (folded_ill s m i h)) ∙ e))
      go (Ok (Some (c, i))) h = at-char c i h (ap f (sym (folded_char s m c i h)) ∙ e)

  slash_to : slash_rule o p (folded_from s m) ≡ Ok (k, n) → Ends s m n
  unfolding slash_rule
  slash_to = looks (slash_rule o p) Token.Slash refl (λ i. refl) (λ c i h. by c i h (eqb c 47) (eqb c 42))
    where
      by : (c : ℕ) (i : Place) → folded_at s m ≡ Ok (Some (c, i)) → (t u : Bool)
          → (if t then as_token Token.Comment (line_comment (folded_from s i))
          else (if u then as_token Token.Comment (block_comment (in_map o p) (Block.Other 1) (folded_from s i))
          else Ok (Token.Slash, m))) ≡ Ok (k, n) → Ends s m n
      by c i h true u e = behind c i h Token.Comment _ (line_to s i) e
      by c i h false true e = behind c i h Token.Comment _ (block_to (in_map o p) (Block.Other 1) s i) e
      by c i h false false e = here Token.Slash m refl e

  dash_to : dash_rule (folded_from s m) ≡ Ok (k, n) → Ends s m n
  unfolding dash_rule
  dash_to = looks dash_rule Token.Minus refl (λ i. refl) (λ c i h. by c i h (eqb c 62))
    where
      by : (c : ℕ) (i : Place) → folded_at s m ≡ Ok (Some (c, i)) → (t : Bool)
          → if◌then◌else◌ {A = Lexed} t (Ok (Token.RArrow, place_of (folded_from s i))) (Ok (Token.Minus, m)) ≡ Ok (k, n) → Ends s m n
      by c i h true e =
          let g = folded_onward s m c i h in
          let a : i.0 ≡ n.0 = ap (λ (x : Place). x.0) (sym (folded_place s i) ∙ as_is e) in (omega (arith, g.beyond), omega (arith, g.inside))
      by c i h false e = here Token.Minus m refl e

  percent_to : percent_rule (folded_from s m) ≡ Ok (k, n) → Ends s m n
  unfolding percent_rule
  percent_to = looks percent_rule Token.ExplicitId refl (λ i. refl) (λ c i h. by c i h (keylike_start c))
    where
      by : (c : ℕ) (i : Place) → folded_at s m ≡ Ok (Some (c, i)) → (t : Bool)
          → (if t then as_token Token.ExplicitId (run keylike_continue (folded_from s i)) else Ok (Token.ExplicitId, m)) ≡ Ok (k, n) → Ends s m n
      by c i h true e = behind c i h Token.ExplicitId _ (run_to keylike_continue s i) e
      by c i h false e = here Token.ExplicitId m refl e

  run_ends : (j : Token) (class : ℕ → Bool) → as_token j (run class (folded_from s m)) ≡ Ok (k, n) → Ends s m n
  run_ends j class = token_to j (run class (folded_from s m)) (run_to class s m l)

  word_ends : as_word s p (run keylike_continue (folded_from s m)) ≡ Ok (k, n) → Ends s m n
  word_ends = word_to (run keylike_continue (folded_from s m)) (run_to keylike_continue s m l)

  rule_to : (rule : Rule) (c : ℕ) → lexed_by rule s o p c (folded_from s m) ≡ Ok (k, n) → Ends s m n
  unfolding lexed_by
  rule_to Blanks c e = run_ends Token.Whitespace blank e
  rule_to Slash c e = slash_to e
  rule_to Dash c e = dash_to e
  rule_to Percent c e = percent_to e
  rule_to Quote c e = string_to (ap (λ (q : Place). as_string (string_literal s o (in_map o p) q)) (sym (folded_place s m)) ∙ e)
  rule_to Digits c e = run_ends Token.Integer digit e
  rule_to Word c e = word_ends e
  rule_to (Mark kind) c e = here kind _ (folded_place s m) e
  rule_to Classed c e = go (keylike_start c) e
    where
      go : (t : Bool)
          → (if t then as_word s p (run keylike_continue (folded_from s m)) else Err (Refusal.Unexpected (in_map o p) c)) ≡ Ok (k, n) → Ends s m n
      go true e = word_ends e
      go false e = absurd (not_as e)

-- THE LAW: a token spans from its place, and goes on beyond it within the text
pub record Goes (s : List ℕ) (o : ℕ) (p : Place) (span : Span) (n : Place) : Type 0 where
  pub spans : span ≡ record { start = in_map o p; end = in_map o n }
  pub beyond : p.0 < n.0
  pub inside : n.0 ≤ length s
  pub capped : p.0 < cap

-- a token with its span, as a raw step
abbrev pub found : Token → Span → Place → Raw
found kind span n = Ok (Some (record { kind = kind; span = span; next = n }))

found_is : {j k : Token} {a b : Span} {m n : Place} → found j a m ≡ found k b n → (a ≡ b) × (m ≡ n)
found_is {j} {k} {a} {b} {m} {n} e =
    let z : ◌≡◌ {A = Lexeme} (record { kind = j; span = a; next = m }) (record { kind = k; span = b; next = n }) = cc in
    (ap (λ (t : Lexeme). t.span) z, ap (λ (t : Lexeme). t.next) z)

end_not : {k : Token} {a : Span} {n : Place} → Ok None ≡ found k a n → ⊥
end_not e = let z : ◌≡◌ {A = ℕ} 0 1 = cc in omega arith

refused_not : {f : Refusal} {k : Token} {a : Span} {n : Place} → Err f ≡ found k a n → ⊥
refused_not e = let z : ◌≡◌ {A = ℕ} 0 1 = cc in omega arith

module _ (s : List ℕ) (o : ℕ) (p : Place) where
  pub raw_goes : (kind : Token) (span : Span) (n : Place) → raw_at s o p ≡ found kind span n → Goes s o p span n
  unfolding raw_at raw_of spanned
  raw_goes kind span n e = go (folded_at s p) refl
    where
      by : (c : ℕ) (m : Place) → folded_at s p ≡ Ok (Some (c, m)) → (x : Lexed) → lexed_by (rule_of c) s o p c (folded_from s m) ≡ x
          → spanned o p x ≡ found kind span n → Goes s o p span n
      by c m h (Ok (j, i)) q e =
          let g = folded_onward s p c m h in
          let f = found_is e in
          let t = rule_to s o p m g.inside j i (rule_of c) c q in
          let a : i.0 ≡ n.0 = ap (λ (x : Place). x.0) f.1 in
          record {
            spans = rw (← f.1) (sym f.0);
            beyond = omega (arith, g.beyond, t);
            inside = omega (arith, t);
            capped = g.capped;
          }
      by c m h (Err f) q e = absurd (refused_not e)

      go : (r : Read) → folded_at s p ≡ r → Goes s o p span n
      go (Ok None) h = absurd (end_not (ap (raw_of s o) (sym (folded_end s p h)) ∙ e))
      go (Err i) h = absurd (refused_not (ap (raw_of s o) (sym (folded_ill s p i h)) ∙ e))
      go (Ok (Some (c, m))) h = by c m h (lexed_by (rule_of c) s o p c (folded_from s m)) refl (ap (raw_of s o) (sym (folded_char s p c m h)) ∙ e)

  pub raw_end_at : length s ≤ cap → raw_at s o p ≡ Ok None → length s ≤ p.0
  unfolding raw_at raw_of spanned
  raw_end_at k e = go (folded_at s p) refl
    where
      by : (p : Place) (x : Lexed) → spanned o p x ≡ Ok None → ⊥
      by p (Ok (j, i)) e = end_not (sym e)
      by p (Err f) e = let z : ◌≡◌ {A = ℕ} 0 1 = cc in omega arith

      go : (r : Read) → folded_at s p ≡ r → length s ≤ p.0
      go (Ok None) h = folded_end_at s p k h
      go (Err i) h = absurd (by p (Err (Refusal.IllFormed i)) (ap (raw_of s o) (sym (folded_ill s p i h)) ∙ e))
      go (Ok (Some (c, m))) h = absurd (by p (lexed_by (rule_of c) s o p c (folded_from s m)) (ap (raw_of s o) (sym (folded_char s p c m h)) ∙ e))

-- a token depends only on the text from its place on
pub raw_alike : (s t : List ℕ) (o : ℕ) (p : Place) → Alike p s t → raw_at s o p ≡ raw_at t o p
unfolding raw_at raw_of as_word lexed_by
raw_alike s t o p a = rw (← view_alike p s t a p (omega arith)) (go (folded_at s p) refl)
  where
    word : (r : Ran) → as_word s p r ≡ as_word t p r
    word (Ok n) = rw a.rest
    word (Err f) = refl

    by : (c : ℕ) (m : Place) → folded_at s p ≡ Ok (Some (c, m))
        → (rule : Rule) → lexed_by rule s o p c (folded_from s m) ≡ lexed_by rule t o p c (folded_from s m)
    by c m h Blanks = refl
    by c m h Slash = refl
    by c m h Dash = refl
    by c m h Percent = refl
    by c m h Quote =
        ap as_string (literal_alike p s t a o (in_map o p) (place_of (folded_from s m)) (rw (folded_place s m) (omega (arith, (folded_onward s p c m h).beyond))))
    by c m h Digits = refl
    by c m h Word = word (run keylike_continue (folded_from s m))
    by c m h (Mark kind) = refl
    by c m h Classed = rw (word (run keylike_continue (folded_from s m)))

    go : (r : Read) → folded_at s p ≡ r → raw_of s o (folded_from s p) ≡ raw_of t o (folded_from s p)
    go (Ok None) h = rw (folded_end s p h)
    go (Err i) h = rw (folded_ill s p i h)
    go (Ok (Some (c, m))) h = rw (folded_char s p c m h) (ap (spanned o p) (by c m h (rule_of c)))
