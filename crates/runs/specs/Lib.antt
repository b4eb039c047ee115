-- Runs and comments.
pub mod Comments
-- What no host's contract needs.
pub mod inner
