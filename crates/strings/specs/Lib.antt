-- The string rule, and decoding.
pub mod Strings
pub mod Decoding
-- What no host's contract needs.
pub mod inner
