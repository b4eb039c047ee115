-- The steps for a wanted kind.
pub mod Wanted
