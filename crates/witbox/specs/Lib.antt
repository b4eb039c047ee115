-- The answers of the C functions.
pub mod Hosts
pub mod inner
