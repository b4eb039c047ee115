-- The laws of rows and of the stage.
pub mod StageLaws
pub mod ListingLaws
pub mod Coverage
pub mod OneAnswer
