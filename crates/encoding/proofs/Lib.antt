-- One answer for each contract.
pub mod OneAnswer
