-- 01, "Characters", and 02, §3: the classes of characters.
use Rattle.std.specs.Prelude.{ℕ, Bool, true, false, ◌||◌, List, [], ◌∷◌, eqb}
use Rattle.terms.specs.Terms.{within, Row, ◌to◌is◌, said}
use Rattle.classes.specs.Ranges.{member}
use Rattle.classes.specs.XidStart.{xid_starts}
use Rattle.classes.specs.XidContinue.{xid_continues}

-- c has Unicode's property XID_Start.
unfoldable pub xid_start : ℕ → Bool
xid_start c = member xid_starts c

-- c has Unicode's property XID_Continue.
unfoldable pub xid_continue : ℕ → Bool
xid_continue c = member xid_continues c

-- A keylike start is XID_Start, `_` or `-`.
unfoldable pub keylike_start : ℕ → Bool
keylike_start c = eqb c 0x5F || (eqb c 0x2D || xid_start c)

-- A keylike continuation is XID_Continue or `-`.
unfoldable pub keylike_continue : ℕ → Bool
keylike_continue c = eqb c 0x2D || xid_continue c

-- Up to U+02C1, XID_Start is A-Z, a-z, U+00AA, 00B5, 00BA, 00C0 to 00D6, 00D8 to 00F6, 00F8 to 02C1.
unfoldable pub short_starts : List (Row Bool)
short_starts =
    0x41 to 0x5A is true ∷ 0x61 to 0x7A is true ∷ 0xAA to 0xAA is true ∷ 0xB5 to 0xB5 is true ∷ 0xBA to 0xBA is true
    ∷ 0xC0 to 0xD6 is true ∷ 0xD8 to 0xF6 is true ∷ 0xF8 to 0x2C1 is true ∷ []

-- What that list says of c.
unfoldable pub short_start : ℕ → Bool
short_start c = said short_starts false c

-- Up to U+02C1, XID_Continue adds 0-9, `_` and U+00B7.
unfoldable pub short_continue : ℕ → Bool
short_continue c = within 0x30 0x39 c || (eqb c 0x5F || (eqb c 0xB7 || short_start c))
