-- The words that every other definition is written in.
pub mod Terms
