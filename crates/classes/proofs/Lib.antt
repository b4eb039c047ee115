-- The laws of the classes, for the rooms above.
pub mod RangeLaws
pub mod SearchLaws
pub mod ShortLaws
pub mod RunLaws
pub mod Cases
pub mod Counts
-- One answer for each contract.
pub mod OneAnswer
