-- Screening.
pub mod Screening
-- What no host's contract needs.
pub mod inner
