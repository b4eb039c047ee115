-- The rows of a text, and the listings of them.
pub mod Rows
pub mod Listings
pub mod Coverage
pub mod inner
