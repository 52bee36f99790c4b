-- Contents. To be read from top to bottom.
pub mod Contents
pub mod Sets
pub mod Marking
pub mod Laws
-- How the code stands to them.
pub mod Expressions
pub mod Marked
