-- The laws of plain text, for the rooms above.
pub mod PlainLaws
-- Those of the search for its end, and of screening.
pub mod StopLaws
pub mod ScreeningLaws
-- One answer for each contract.
pub mod OneAnswer
