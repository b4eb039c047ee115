-- The program's arguments.
use Rattle.std.specs.Prelude.{ℕ, ◌≤◌, List, [], length}
use Rattle.files.specs.declared.args.Argument.{Argument}
use Rattle.files.specs.declared.args.Argument.TheVariants.{Bytes, TooLong}

-- The bytes that are kept.
abbrev pub bytes_of : Argument → List ℕ
bytes_of (Bytes bytes) = bytes.now
bytes_of TooLong = []

-- No more bytes are kept than a file's name may have.
abbrev pub IsShort : Argument → Type 0
IsShort argument = length (bytes_of argument) ≤ 4096
