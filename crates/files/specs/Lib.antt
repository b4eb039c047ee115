-- The definition that the contract of `line_behind` cites.
pub mod Lines
-- What the programs' own contracts need.
pub mod inner
