-- What the clerk answers to a sheet.
pub mod Sorted
-- What no host's contract needs.
pub mod inner
