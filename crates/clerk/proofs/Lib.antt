-- The laws of the placing, and the theorems about the answer.
pub mod RowLaws
mod StateLaws
mod Tallied
mod Taking
mod Ending
pub mod Answering
mod Cases
pub mod Theorems
pub mod OneAnswer
