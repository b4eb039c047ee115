-- What the caps and the map yield, for the rooms above.
pub mod CapsLaws
-- One answer for each contract.
pub mod OneAnswer
-- No refusal has the number 9.
pub mod Retired
