-- The laws of the token rules, for the rooms above.
pub mod TokenLaws
pub mod SettledLaws
-- The definitions on the cases, and one answer for each contract.
pub mod Cases
pub mod OneAnswer
