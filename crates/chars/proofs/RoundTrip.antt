-- Reading and encoding undo each other.
use Prim.Native.Nat.{ℕ, zero, suc, ◌+◌, ◌-◌, ◌*◌, ◌/◌, ◌%◌, ◌≤◌, ◌<◌}
use mathlib.Core.Path.{◌≡◌, refl, sym, ap, ◌∙◌}
use mathlib.Core.Bool.{true, ◌&&◌}
use mathlib.Core.List.{List, [], ◌∷◌, ◌++◌}
use mathlib.Core.Logic.{◌⊎◌, inl, inr, ⊎_elim}
use native.Mathlib.Omega.{arith}
use native.Mathlib.Nat.{add-zero}
use lib.ListN.{length, get_or, take, drop, length-append, length-take, length-drop, drop_of_length-le, take-append-drop}
use lib.Seq.{get_or-append-add, get_or-take, get_or-drop, drop-cons, drop-drop}
use Rattle.terms.specs.Terms.{within, said}
use Rattle.terms.proofs.TestLaws.{within_yes, within_true, and_both}
use Rattle.terms.proofs.TableLaws.{split}
use Rattle.answers.specs.declared.Place.{Place}
use Rattle.answers.specs.Caps.{accepted}
use Rattle.std.specs.Prelude.{Ok, Err}
use Rattle.answers.specs.Places.{place}
use Rattle.answers.proofs.CapsLaws.{refused_not}
use Rattle.answers.specs.Caps.{cap}
use Rattle.chars.specs.Utf8.{byte_at, on_by, leads, lead_of, is_tail, char_by, char_at, is_scalar, encode}
use Rattle.chars.specs.View.{Chars, end, ill, char, chars_from, folded_at, well_formed}
use Rattle.chars.specs.Utf8.{Read}
use Rattle.std.specs.Prelude.{None, Some, Ok, Err}
use Rattle.chars.specs.declared.Lead.{Lead}
use Rattle.chars.specs.declared.Lead.TheVariants.{Alone, Two, Three, Four, Never}
use Rattle.chars.proofs.Utf8Laws.{lawful, leads_on, lead_in, two_in, three_in, four_in, scalar_is, scalar_at_most}
use Rattle.chars.proofs.Utf8Laws.{reads_by, ranged, tail, stands, stands_so, chosen, Onward, onward, end_at, char_is, char_not_end, char_not_ill}
use Rattle.chars.proofs.ViewLaws.{chars_end, chars_ill, chars_char, folded_onward, folded_is}
use Rattle.chars.proofs.EncodeLaws.{encode_one, encode_two, encode_three, encode_four}

-- what the first bytes of the encodings start, and that the second byte is in the range that the first gives
lead_two : (b : ℕ) → 0xC2 ≤ b → b ≤ 0xDF → lead_of b ≡ Two 0x80 0xBF
unfolding leads_on
lead_two b p q = lead_in [] 0xC2 0xDF b _ tt p q refl

abbrev Ranged : (ℕ → ℕ → Lead) → ℕ → ℕ → Type 0
Ranged l b c = (low : ℕ) × (high : ℕ) × (lead_of b ≡ l low high) × (within low high c ≡ true)

lead_three : (b c : ℕ) → 0xE0 ≤ b → b ≤ 0xEF → 0x80 ≤ c → c ≤ 0xBF → 0x20 + 0xE0 * 64 + 0x80 ≤ b * 64 + c
    → (b * 64 + c ≤ 0x35F + 0xE0 * 64 + 0x80) ⊎ (0x380 + 0xE0 * 64 + 0x80 ≤ b * 64 + c) → Ranged Three b c
unfolding leads_on
lead_three b c p q f g over sur =
    split 0xE0 b (λ h. (0xA0, 0xBF, lead_in [] 0xE0 0xE0 b _ tt p h refl, within_yes 0xA0 0xBF c (omega arith) g)) (λ k.
    split 0xEC b (λ h. (0x80, 0xBF, lead_in [] 0xE1 0xEC b _ tt k h refl, within_yes 0x80 0xBF c f g)) (λ l.
    split 0xED b
    (λ h. (0x80, 0x9F, lead_in [] 0xED 0xED b _ tt l h refl, within_yes 0x80 0x9F c f (⊎_elim (λ s. omega arith) (λ s. omega arith) sur)))
    (λ m. (0x80, 0xBF, lead_in [] 0xEE 0xEF b _ tt m q refl, within_yes 0x80 0xBF c f g))))

lead_four : (b c : ℕ) → 0xF0 ≤ b → b ≤ 0xF4 → 0x80 ≤ c → c ≤ 0xBF → 0x10 + 0xF0 * 64 + 0x80 ≤ b * 64 + c
    → b * 64 + c ≤ 0x10F + 0xF0 * 64 + 0x80 → Ranged Four b c
unfolding leads_on
lead_four b c p q f g over top =
    split 0xF0 b (λ h. (0x90, 0xBF, lead_in [] 0xF0 0xF0 b _ tt p h refl, within_yes 0x90 0xBF c (omega arith) g)) (λ k.
    split 0xF3 b (λ h. (0x80, 0xBF, lead_in [] 0xF1 0xF3 b _ tt k h refl, within_yes 0x80 0xBF c f g))
    (λ m. (0x80, 0x8F, lead_in [] 0xF4 0xF4 b _ tt m q refl, within_yes 0x80 0x8F c f (omega arith))))

tail_yes : (c : ℕ) → 0x80 ≤ c → c ≤ 0xBF → is_tail c ≡ true
unfolding is_tail
tail_yes c p q = within_yes 0x80 0xBF c p q

-- reading the bytes of a character that stand behind `before`
module _ (before after : List ℕ) (c : ℕ) (k : length before < cap) where
  abbrev here : Place
  here = place (length before)

  text_long : (x : ℕ) (xs : List ℕ) → length before < length (before ++ (x ∷ xs))
  text_long x xs = rw length-append (omega arith)

  -- the byte i places on
  byte : (xs : List ℕ) (i : ℕ) → byte_at (before ++ xs) (on_by i here) ≡ get_or xs i 0
  unfolding byte_at
  byte xs i = get_or-append-add before xs i 0

  byte_0 : (xs : List ℕ) → byte_at (before ++ xs) here ≡ get_or xs 0 0
  byte_0 xs = ap (λ (n : ℕ). byte_at (before ++ xs) (place n)) (sym (add-zero (length before))) ∙ byte xs 0

  abbrev Reads : List ℕ → Type 0
  Reads xs = char_at (before ++ (xs ++ after)) here ≡ Ok (Some (c, on_by (length xs) here))

  reads_one : c ≤ 0x7F → Reads (c ∷ [])
  unfolding char_by lead_of leads said
  reads_one h =
      stands _ here (text_long c after) k ∙ rw (byte_0 (c ∷ after), within_yes 0 0x7F c (omega arith) h)

  reads_two : 0x7F < c → c ≤ 0x7FF → Reads ((0xC0 + c / 64) ∷ (0x80 + c % 64) ∷ [])
  unfolding char_by
  reads_two g h =
      let xs : List ℕ = (0xC0 + c / 64) ∷ (0x80 + c % 64) ∷ after in
      let e : (0xC0 + c / 64 - 0xC0) * 64 + (0x80 + c % 64 - 0x80) ≡ c = omega arith in
      let l = lead_two (0xC0 + c / 64) (omega arith) (omega arith) in
      stands _ here (text_long _ _) k
      ∙ rw (byte_0 xs, byte xs 1, l, within_yes 0x80 0xBF (0x80 + c % 64) (omega arith) (omega arith), e)

  reads_three : 0x7FF < c → c ≤ 0xFFFF → is_scalar c ≡ true → Reads ((0xE0 + c / 4096) ∷ (0x80 + c / 64 % 64) ∷ (0x80 + c % 64) ∷ [])
  unfolding char_by
  reads_three g h y =
      let xs : List ℕ = (0xE0 + c / 4096) ∷ (0x80 + c / 64 % 64) ∷ (0x80 + c % 64) ∷ after in
      let e : (0xE0 + c / 4096 - 0xE0) * 4096 + (0x80 + c / 64 % 64 - 0x80) * 64 + (0x80 + c % 64 - 0x80) ≡ c = omega arith in
      let m : (0xE0 + c / 4096) * 64 + (0x80 + c / 64 % 64) ≡ 0xE0 * 64 + 0x80 + c / 64 = omega arith in
      let l = lead_three (0xE0 + c / 4096) (0x80 + c / 64 % 64) (omega arith) (omega arith) (omega arith) (omega arith) (omega arith)
      (⊎_elim (λ u. inl (omega arith)) (λ u. inr (omega arith)) (scalar_is c y)) in
      stands _ here (text_long _ _) k
      ∙ rw (byte_0 xs, byte xs 1, byte xs 2, l.2, l.3, tail_yes (0x80 + c % 64) (omega arith) (omega arith), e)

  reads_four : 0xFFFF < c → c ≤ 0x10FFFF
      → Reads ((0xF0 + c / 262144) ∷ (0x80 + c / 4096 % 64) ∷ (0x80 + c / 64 % 64) ∷ (0x80 + c % 64) ∷ [])
  unfolding char_by
  reads_four g h =
      let xs : List ℕ = (0xF0 + c / 262144) ∷ (0x80 + c / 4096 % 64) ∷ (0x80 + c / 64 % 64) ∷ (0x80 + c % 64) ∷ after in
      let u : c / 262144 * 64 + c / 4096 % 64 ≡ c / 4096 = omega arith in
      let v : c / 4096 * 64 + c / 64 % 64 ≡ c / 64 = omega arith in
      let e : (0xF0 + c / 262144 - 0xF0) * 262144 + (0x80 + c / 4096 % 64 - 0x80) * 4096 + (0x80 + c / 64 % 64 - 0x80) * 64 + (0x80 + c % 64 - 0x80)
      ≡ c = omega arith in
      let m : (0xF0 + c / 262144) * 64 + (0x80 + c / 4096 % 64) ≡ 0xF0 * 64 + 0x80 + c / 4096 = omega arith in
      let l = lead_four (0xF0 + c / 262144) (0x80 + c / 4096 % 64) (omega arith) (omega arith) (omega arith) (omega arith) (omega arith) (omega arith) in
      stands _ here (text_long _ _) k
      ∙ rw (byte_0 xs, byte xs 1, byte xs 2, byte xs 3, l.2, l.3)
      (rw (tail_yes (0x80 + c / 64 % 64) (omega arith) (omega arith), tail_yes (0x80 + c % 64) (omega arith) (omega arith), e))

  -- THE THEOREM: reading the bytes of a character gives the character, and the place behind them
  pub read_encode : is_scalar c ≡ true → char_at (before ++ (encode c ++ after)) here ≡ Ok (Some (c, on_by (length (encode c)) here))
  read_encode y =
      split 0x7F c (λ h. rw (encode_one c h) (reads_one h)) (λ g.
      split 0x7FF c (λ h. rw (encode_two c g h) (reads_two g h)) (λ f.
      split 0xFFFF c (λ h. rw (encode_three c f h) (reads_three f h y))
      (λ e. rw (encode_four c e) (reads_four e (scalar_at_most c y)))))

-- the bytes of a text, one by one
module _ (s : List ℕ) (p : Place) where
  bytes : ℕ → ℕ → List ℕ
  bytes i zero = []
  bytes i (suc m) = byte_at s (on_by i p) ∷ bytes (suc i) m

  run : (m i : ℕ) → p.0 + i + m ≤ length s → take m (drop (p.0 + i) s) ≡ bytes i m
  unfolding bytes byte_at
  run zero i h = refl
  run (suc m) i h =
      let l : p.0 + i < length s = omega arith in
      let e : suc (p.0 + i) ≡ p.0 + suc i = omega arith in
      rw (drop-cons s (p.0 + i) 0 l, e) (ap (λ (xs : List ℕ). get_or s (p.0 + i) 0 ∷ xs) (run m (suc i) (omega arith)))

  -- the first byte, and m after it
  run_first : (m : ℕ) → p.0 + suc m ≤ length s → take (suc m) (drop p.0 s) ≡ byte_at s p ∷ bytes 1 m
  unfolding bytes byte_at
  run_first m h =
      let e : p.0 + 0 ≡ p.0 = omega arith in
      rw e at (run (suc m) 0 (omega arith))

  module _ (c : ℕ) (n : Place) (o : Onward s p n) where
    abbrev Encodes : Type 0
    Encodes = take (n.0 - p.0) (drop p.0 s) ≡ encode c

    ways : (l : Lead) → lead_of (byte_at s p) ≡ l → reads_by s p l ≡ Ok (Some (c, n)) → Encodes
    unfolding char_by bytes
    ways Alone h e =
        let q = char_is e in
        let m : p.0 + 1 ≡ n.0 = ap (λ (x : Place). x.0) q.1 in
        let d : n.0 - p.0 ≡ 1 = omega arith in
        let b = lawful _ _ h in
        rw (d, run_first 0 (omega (arith, o.inside)), encode_one c (omega arith)) (ap (λ (x : ℕ). x ∷ []) q.0)
    ways (Two low high) h e =
        let q = chosen _ p e in
        let b = two_in _ _ low high h q.0 in
        let d : n.0 - p.0 ≡ 2 = omega arith in
        let f : 0xC0 + c / 64 ≡ byte_at s p = omega arith in
        let g : 0x80 + c % 64 ≡ byte_at s (on_by 1 p) = omega arith in
        rw (d, run_first 1 (omega (arith, o.inside)), encode_two c (omega arith) (omega arith), f, g)
    ways (Three low high) h e =
        let q = chosen _ p e in
        let b = three_in _ _ _ low high h q.0 in
        let w = within_true low high _ (and_both (ranged s p low high) (tail s p 2) q.0).0 in
        let r = lawful _ _ h in
        let d : n.0 - p.0 ≡ 3 = omega arith in
        let f : 0xE0 + c / 4096 ≡ byte_at s p = omega arith in
        let g : 0x80 + c / 64 % 64 ≡ byte_at s (on_by 1 p) = omega arith in
        let k : 0x80 + c % 64 ≡ byte_at s (on_by 2 p) = omega arith in
        rw (d, run_first 2 (omega (arith, o.inside)), encode_three c (omega arith) (omega arith), f, g, k)
    ways (Four low high) h e =
        let q = chosen _ p e in
        let b = four_in _ _ _ _ low high h q.0 in
        let w = within_true low high _ (and_both (ranged s p low high) (tail s p 2 && tail s p 3) q.0).0 in
        let r = lawful _ _ h in
        let d : n.0 - p.0 ≡ 4 = omega arith in
        let f : 0xF0 + c / 262144 ≡ byte_at s p = omega arith in
        let g : 0x80 + c / 4096 % 64 ≡ byte_at s (on_by 1 p) = omega arith in
        let k : 0x80 + c / 64 % 64 ≡ byte_at s (on_by 2 p) = omega arith in
        let l : 0x80 + c % 64 ≡ byte_at s (on_by 3 p) = omega arith in
        rw (d, run_first 3 (omega (arith, o.inside)), encode_four c (omega arith), f, g, k, l)
    ways Never h e = absurd (char_not_ill e)

    both : char_at s p ≡ Ok (Some (c, n)) → Encodes
    both e =
        ⊎_elim (λ w. absurd (char_not_end (sym w.1 ∙ e))) (λ w. ways (lead_of (byte_at s p)) refl (sym w.2 ∙ e)) (stands_so s p)

-- THE THEOREM: whatever reads as a character is the bytes of that character
pub encode_read : (s : List ℕ) (p : Place) (c : ℕ) (n : Place) → char_at s p ≡ Ok (Some (c, n)) → take (n.0 - p.0) (drop p.0 s) ≡ encode c
encode_read s p c n e = both s p c n (onward s p c n e) e

-- so no character has two encodings
pub one_encoding : (s t : List ℕ) (p q : Place) (c : ℕ) (n m : Place) → char_at s p ≡ Ok (Some (c, n)) → char_at t q ≡ Ok (Some (c, m))
    → take (n.0 - p.0) (drop p.0 s) ≡ take (m.0 - q.0) (drop q.0 t)
one_encoding s t p q c n m d e = encode_read s p c n d ∙ sym (encode_read t q c m e)

-- a character has the bytes that it is read from; a folded one has no more
module _ (s : List ℕ) (p : Place) (c : ℕ) (n : Place) where
  pub read_width : char_at s p ≡ Ok (Some (c, n)) → p.0 + length (encode c) ≡ n.0
  read_width e =
      let o = onward s p c n e in
      omega (arith, simp (length-take, length-drop) at (ap length (encode_read s p c n e)))

  pub folded_width : folded_at s p ≡ Ok (Some (c, n)) → p.0 + length (encode c) ≤ n.0
  folded_width e = ⊎_elim newline (λ h. omega (arith, read_width h)) (folded_is s p c n e)
    where
      newline : c ≡ 10 → p.0 + length (encode c) ≤ n.0
      newline h =
          let o = folded_onward s p c n e in
          omega (arith, ap length (encode_one c (omega arith)))

  -- the byte i places on is the character's own, and one below 0x80 is that byte
  pub read_byte : char_at s p ≡ Ok (Some (c, n)) → (i : ℕ) → p.0 + i < n.0 → byte_at s (on_by i p) ≡ get_or (encode c) i 0
  unfolding byte_at
  read_byte e i l =
      let j : i < n.0 - p.0 = omega arith in
      rw (← encode_read s p c n e, get_or-take (n.0 - p.0) (drop p.0 s) i 0 j, get_or-drop)

  pub ascii_byte : char_at s p ≡ Ok (Some (c, n)) → c ≤ 0x7F → byte_at s p ≡ c
  ascii_byte e h =
      let o = onward s p c n e in
      ap (λ (k : ℕ). byte_at s (place k)) (sym (add-zero p.0)) ∙ read_byte e 0 (omega arith) ∙ rw (encode_one c h)

-- the bytes of the characters of a view
pub encode_all : Chars → List ℕ
encode_all (end p) = []
encode_all (ill i) = []
encode_all (char p c v) = encode c ++ encode_all v

module _ (s : List ℕ) (short : length s ≤ cap) where
  all_from : (k : ℕ) (p : Place) → length s - p.0 < k → well_formed (chars_from s p) ≡ accepted → encode_all (chars_from s p) ≡ drop p.0 s
  unfolding encode_all well_formed
  all_from zero p h w = absurd (omega arith)
  all_from (suc k) p h w = go (char_at s p) refl (all_from k)
    where
      go : (r : Read) → char_at s p ≡ r
          → ((q : Place) → length s - q.0 < k → well_formed (chars_from s q) ≡ accepted → encode_all (chars_from s q) ≡ drop q.0 s)
          → encode_all (chars_from s p) ≡ drop p.0 s
      go (Ok None) e ih = rw (chars_end s p e) (sym (drop_of_length-le s (end_at s p short e)))
      go (Err i) e ih = absurd (refused_not (rw (chars_ill s p i e) at w))
      go (Ok (Some (c, n))) e ih =
          let o = onward s p c n e in
          let j : p.0 + (n.0 - p.0) ≡ n.0 = omega arith in
          let rest : encode_all (chars_from s n) ≡ drop n.0 s = ih n (omega arith) (rw (chars_char s p c n e) at w) in
          rw (chars_char s p c n e, rest, ← encode_read s p c n e)
          (ap (λ (m : ℕ). take (n.0 - p.0) (drop p.0 s) ++ drop m s) (sym j)
          ∙ rw (← drop-drop (n.0 - p.0) p.0 s) (take-append-drop (n.0 - p.0) (drop p.0 s)))

  -- THE THEOREM: a well-formed text, re-encoded, is itself
  pub re_encoded : well_formed (chars_from s (place 0)) ≡ accepted → encode_all (chars_from s (place 0)) ≡ s
  re_encoded w = all_from (suc (length s - 0)) (place 0) (omega arith) w
