-- What is wrong with a file, in words.
use Rattle.std.specs.Prelude.{ℕ, List, codes}
use Rattle.files.specs.declared.faults.Fault.{Fault}
use Rattle.files.specs.declared.faults.Fault.TheVariants.{NoName, NameTooLong, NameNotUtf8, NotFound, NotADirectory, IsADirectory, Forbidden, TooLong, Unreadable}

-- What is said behind the name of the file.
abbrev pub words_of : Fault → List ℕ
words_of NoName = codes "the name of a file is wanted"
words_of NameTooLong = codes "too long for the name of a file"
words_of NameNotUtf8 = codes "cannot be opened: its name is not UTF-8"
words_of NotFound = codes "no such file"
words_of NotADirectory = codes "no such file: a part of its path is no directory"
words_of IsADirectory = codes "a directory, where a file is wanted"
words_of Forbidden = codes "may not be read"
words_of TooLong = codes "over 65,536 bytes, the most that is read"
words_of Unreadable = codes "cannot be read"
