-- The laws of `specs/Terms.antt`, for the rooms above.
pub mod TestLaws
pub mod BelowLaws
pub mod TableLaws
pub mod FirstLaws
pub mod CountLaws
pub mod BytesLaws
-- What the theorems of one answer say, and those of this room.
pub mod OneAnswer
pub mod OneAnswers
