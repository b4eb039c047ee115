-- The laws that the C functions lean on.
pub mod ForwardLaws
pub mod OneAnswer
