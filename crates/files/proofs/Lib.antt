-- A lemma, and one answer.
pub mod Counted
pub mod OneAnswer
