-- The grammar of rule texts and start texts. To be read from top to bottom.
pub mod Grammar
-- The same as functions, and that they are the same.
pub mod Parser
pub mod Texts
pub mod Laws
pub mod Worked
