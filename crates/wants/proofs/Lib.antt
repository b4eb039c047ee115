pub mod WantedLaws
-- The definitions on the cases, and one answer for each contract.
pub mod Cases
pub mod OneAnswer
