-- What no host's contract needs.
pub mod Rows
pub mod Listed
pub mod State
