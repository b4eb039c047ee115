-- The laws of the character rules, for the rooms above.
pub mod Utf8Laws
pub mod ViewLaws
pub mod SeekLaws
pub mod SingleLaws
pub mod RunLaws
pub mod LocalLaws
pub mod EncodeLaws
-- Reading and encoding undo each other.
pub mod RoundTrip
-- One answer for each contract.
pub mod OneAnswer
