-- What no host's contract needs.
pub mod Runs
