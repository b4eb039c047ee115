-- The classes of characters, in reading order: sets of code points as ranges, the two that Unicode lists, and what is built on them.
pub mod Ranges
pub mod XidStart
pub mod XidContinue
pub mod Classes
-- What no host's contract needs.
pub mod inner
