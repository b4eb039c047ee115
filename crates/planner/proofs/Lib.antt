-- The laws of proposed orders, and the theorems about them.
mod ListLaws
mod SeatLaws
mod Answering
mod Cases
pub mod Theorems
pub mod OneAnswer
