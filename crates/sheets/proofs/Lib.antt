-- The laws of a sheet's checks and edges.
pub mod CheckLaws
pub mod FoundLaws
mod ByteLaws
mod NameLaws
pub mod EdgeLaws
mod ResolveLaws
pub mod AcceptedLaws
pub mod OneAnswer
