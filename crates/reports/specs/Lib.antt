-- The reports of the programs. To be read from top to bottom: what the contracts rest on.
pub mod Lines
pub mod Outlines
pub mod Laws
pub mod Rows
pub mod Standing
pub mod Piles
pub mod Sources
