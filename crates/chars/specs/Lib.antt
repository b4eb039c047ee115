-- The character rules, in reading order: what bytes read as, the text as a view, and hexadecimal digits.
pub mod Utf8
pub mod View
pub mod Hex
-- What no host's contract needs.
pub mod inner
