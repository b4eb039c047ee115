-- Opening, and the steps on a plain place.
pub mod Stream
pub mod Steps
