-- What is proved of this room beside its contracts.
pub mod OneAnswer
