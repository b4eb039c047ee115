-- The laws and theorems of the clerk's order.
pub mod OrderLaws
pub mod Unseen
pub mod Distinct
pub mod Acyclic
pub mod Sequence
