-- The clerk's order, and chains of dependencies.
pub mod Order
pub mod Chain
