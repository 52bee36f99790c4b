-- What the readers of form texts answer.
pub mod Reads
pub mod Answers
