-- Places and positions, the numbers that come back, and the caps.
pub mod Places
pub mod Refusals
pub mod Caps
