-- The paper's cases, the answers and the programs that are ruled out.
pub mod Calls
pub mod Paper
pub mod Wrong
pub mod Barred
pub mod Empty
