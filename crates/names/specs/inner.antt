-- What no host's contract needs.
pub mod Within
pub mod OneCase
