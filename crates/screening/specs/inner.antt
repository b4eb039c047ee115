-- What no host's contract needs.
pub mod OneWalk
pub mod Plain
