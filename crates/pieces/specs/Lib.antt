-- The pieces of form texts. To be read from top to bottom.
pub mod Pieces
pub mod Spelling
pub mod Cutting
pub mod Tokens
-- For the inner functions of the code.
pub mod Lexemes
