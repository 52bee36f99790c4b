pub mod Sound
pub mod Meanings
pub mod Told
pub mod Locality
pub mod Marks
