-- 01, "Strings": hexadecimal digits.
use Rattle.std.specs.Prelude.{ℕ, ◌-◌, List, [], ◌∷◌, Option, None, Some}
use Rattle.terms.specs.Terms.{Row, ◌to◌is◌, said}

-- The digits, and what the one that is c is worth.
unfoldable pub hex_digits : ℕ → List (Row (Option ℕ))
hex_digits c = 0x30 to 0x39 is Some (c - 0x30) ∷ 0x41 to 0x46 is Some (c - 0x37) ∷ 0x61 to 0x66 is Some (c - 0x57) ∷ []

-- The value of a hexadecimal digit; none of any other character.
unfoldable pub to_hex : ℕ → Option ℕ
to_hex c = said (hex_digits c) None c
