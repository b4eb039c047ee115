-- The laws of the tokens from a place on, for the rooms above.
pub mod StreamLaws
pub mod StepLaws
-- The definitions on the cases, and one answer for each contract.
pub mod Cases
pub mod OneAnswer
