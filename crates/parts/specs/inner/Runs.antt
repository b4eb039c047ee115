-- The bytes that a part passes over at once. `part_passes` (proofs/PartLaws.antt) ties it to the parts.
use Rattle.chars.specs.declared.AsciiSet.{AsciiSet}
use Rattle.parts.specs.declared.Part.{Part}

-- The bytes that leave a part as it is: none at its start; digits, and letters of its case, inside it.
unfoldable pub staying : Part → AsciiSet
staying Part.First = record { low = 0; high = 0 }
staying Part.Next = record { low = 0; high = 0 }
staying Part.Digits = record { low = 0x03FF_0000_0000_0000; high = 0 }
staying Part.Upper = record { low = 0x03FF_0000_0000_0000; high = 0x0000_0000_07FF_FFFE }
staying Part.Lower = record { low = 0x03FF_0000_0000_0000; high = 0x07FF_FFFE_0000_0000 }
