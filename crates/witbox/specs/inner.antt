-- What only the room's own functions ask.
pub mod Forward
