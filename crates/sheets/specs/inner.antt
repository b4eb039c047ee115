-- What no host's contract needs.
pub mod Bytes
pub mod Found
pub mod Resolving
pub mod Asked
pub mod Signatures
