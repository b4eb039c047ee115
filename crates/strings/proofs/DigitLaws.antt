-- What a hexadecimal digit is worth is below 16, and what a simple escape stands for is below 0x80.
use Rattle.std.proofs.Common.{◌≡◌, ℕ, ◌-◌, ◌<◌, ◌≤◌, refl, arith, Option, None, Some}
use Rattle.chars.specs.Hex.{hex_digits, to_hex}
use Rattle.chars.proofs.Utf8Laws.{each}
use Rattle.strings.specs.Strings.{simples, simple_of}

pub hex_low : (c d : ℕ) → to_hex c ≡ Some d → d < 16
unfolding to_hex hex_digits
hex_low c d e =
    each (λ (x : ℕ) (o : Option ℕ). x ≡ c → o ≡ Some d → d < 16) (hex_digits c) None (
      (λ x p q h e. let k : c - 0x30 ≡ d = cc in omega arith),
      ((λ x p q h e. let k : c - 0x37 ≡ d = cc in omega arith), ((λ x p q h e. let k : c - 0x57 ≡ d = cc in omega arith), tt)),
    )
    c (λ h e. cc) refl e

pub simple_low : (c d : ℕ) → simple_of c ≡ Some d → d ≤ 0x7F
unfolding simple_of simples
simple_low c d e =
    each (λ (x : ℕ) (o : Option ℕ). o ≡ Some d → d ≤ 0x7F) simples None (
      (λ x p q e. let k : 0x22 ≡ d = cc in omega arith),
      (
        (λ x p q e. let k : 0x27 ≡ d = cc in omega arith),
        (
          (λ x p q e. let k : 0x5C ≡ d = cc in omega arith),
          (
            (λ x p q e. let k : 9 ≡ d = cc in omega arith),
            (
              (λ x p q e. let k : 10 ≡ d = cc in omega arith),
              ((λ x p q e. let k : 13 ≡ d = cc in omega arith), tt),
            ),
          ),
        ),
      ),
    )
    c (λ e. cc) e
