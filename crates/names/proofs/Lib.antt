-- What a span's checks decide, and where an identifier lies.
pub mod NameLaws
-- Identifiers whose letters are all of one case.
pub mod OneCaseLaws
-- The definitions on the cases, and one answer for each contract.
pub mod Cases
pub mod OneAnswer
