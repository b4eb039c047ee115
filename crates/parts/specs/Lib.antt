-- The parts of an identifier.
pub mod Parts
-- What no host's contract needs.
pub mod inner
