pub mod Cuts
mod Lexing
