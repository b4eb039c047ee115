-- The laws of the parts.
pub mod PartLaws
-- One answer.
pub mod OneAnswer
