pub mod Entries
pub mod Selecting
pub mod Hiding
pub mod Cutting
pub mod Seeing
pub mod LawProofs
