-- What the programs' own contracts need.
pub mod Arguments
pub mod Faults
pub mod Refusals
