pub mod Kinds
pub mod Words
pub mod Spellings
pub mod Rounding
pub mod Numbers
