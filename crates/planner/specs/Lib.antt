-- Load orders that somebody proposes: what such an order is, and the check of one.
pub mod Proposed
-- What no host's contract needs.
pub mod inner
