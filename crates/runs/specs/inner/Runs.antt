-- The bytes that runs and comments pass over at once, and the states of a block comment. `proofs/RunLaws.antt` and `proofs/CommentLaws.antt`
-- tie them to the rules.
use Rattle.std.specs.Prelude.{ℕ, ◌≤◌, Bool, List, [], ◌∷◌, ltb, if◌then◌else◌}
use Rattle.answers.specs.declared.Place.{Place}
use Rattle.answers.specs.Caps.{cap}
use Rattle.chars.specs.declared.AsciiSet.{AsciiSet}
use Rattle.chars.specs.Utf8.{byte_at}
use Rattle.chars.specs.View.{folded_from}
use Rattle.classes.specs.Classes.{keylike_continue}
use Rattle.classes.specs.inner.Runs.{keylike_set, keylike_end}
use Rattle.screening.specs.inner.Plain.{plain_end}
use Rattle.runs.specs.declared.Run.{Run}
use Rattle.runs.specs.declared.Block.{Block}
use Rattle.runs.specs.Comments.{blank, digit}

-- The class of a run.
unfoldable pub class_of : Run → ℕ → Bool
class_of Run.Blanks c = blank c
class_of Run.Digits c = digit c
class_of Run.Keylike c = keylike_continue c

-- The bytes below 0x80 that are inside it.
unfoldable pub set_of : Run → AsciiSet
set_of Run.Blanks = record { low = 0x0000_0001_0000_0600; high = 0 }
set_of Run.Digits = record { low = 0x03FF_0000_0000_0000; high = 0 }
set_of Run.Keylike = keylike_set

-- Where a run is looked at next: past keylike characters, where one above U+02BF may stand.
unfoldable pub passed_over : Run → List ℕ → Place → Place
passed_over Run.Blanks s p = p
passed_over Run.Digits s p = p
passed_over Run.Keylike s p = if ltb (byte_at s p) 0xCB then p else keylike_end (folded_from s p)

-- Where a block comment is looked at next: past plain text without `/` and `*`, unless half a pair may stand before the place.
unfoldable pub passed_by : Block → List ℕ → Place → Place
passed_by (Block.Other depth) s p = plain_end s (47 ∷ 42 ∷ 13 ∷ []) p
passed_by (Block.Slash depth) s p = p
passed_by (Block.Star depth) s p = p

-- How deep a comment is.
unfoldable pub depth_of : Block → ℕ
depth_of (Block.Other depth) = depth
depth_of (Block.Slash depth) = depth
depth_of (Block.Star depth) = depth

-- A comment is one deep at least, and no deeper than the text is long.
pub record Sound (b : Block) : Type 0 where
  pub some : 1 ≤ depth_of b
  pub few : depth_of b ≤ cap
