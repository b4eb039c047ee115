-- The laws of runs and comments, for the rooms above.
pub mod RunLaws
pub mod CommentLaws
-- One answer for each contract.
pub mod OneAnswer
