-- Identifiers.
pub mod Names
-- What no host's contract needs.
pub mod inner
