-- The laws of the string rule, for the rooms above.
pub mod StringLaws
-- Those of its walks.
pub mod CheckingLaws
pub mod DigitLaws
pub mod TurnLaws
pub mod RawLaws
pub mod RuleLaws
pub mod WritingLaws
pub mod PouringLaws
pub mod DecodingLaws
pub mod LocalLaws
-- The definitions on the cases, and one answer for each contract.
pub mod Cases
pub mod OneAnswer
