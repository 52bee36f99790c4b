mod Descent
pub mod Finding
