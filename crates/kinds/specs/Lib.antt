-- The kinds of token, and the keywords.
pub mod Kinds
pub mod Keywords
-- What no host's contract needs.
pub mod inner
