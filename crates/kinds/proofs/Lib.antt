-- The laws of the keywords, for the rooms above.
pub mod ReadLaws
pub mod WordLaws
-- The definitions on the cases, and one answer for each contract.
pub mod Cases
pub mod OneAnswer
