-- The token rules: one token.
pub mod Tokens
-- What no host's contract needs.
pub mod inner
