-- A dependency sheet: its words, its checks, and the edges that it lists.
pub mod Words
pub mod Checks
pub mod Edges
-- What no host's contract needs.
pub mod inner
