-- Runs of keylike continuations, which the rules of words pass over at once: `keylike_ascii` (proofs/ShortLaws.antt) and `keylike_passes`
-- (proofs/RunLaws.antt) tie them to the classes and to the view.
use Rattle.std.specs.Prelude.{if◌then◌else◌}
use Rattle.answers.specs.declared.Place.{Place}
use Rattle.chars.specs.declared.AsciiSet.{AsciiSet}
use Rattle.chars.specs.View.{Chars, end, ill, char}
use Rattle.classes.specs.Classes.{keylike_continue}

-- The bytes below 0x80 that are keylike continuations.
unfoldable pub keylike_set : AsciiSet
keylike_set = record { low = 0x03FF_2000_0000_0000; high = 0x07FF_FFFE_87FF_FFFE }

-- Where a run of keylike continuations ends: at the end, at an ill-formed sequence, or at the first other character.
unfoldable pub keylike_end : Chars → Place
keylike_end (end p) = p
keylike_end (ill i) = i.at
keylike_end (char p c v) = if keylike_continue c then keylike_end v else p
