-- What no host's contract needs.
pub mod Checking
pub mod Walking
pub mod Writing
