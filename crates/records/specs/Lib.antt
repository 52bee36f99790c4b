-- Records: what any of them is, whatever it comes from. To be read from top to bottom.
pub mod Limits
pub mod Nodes
pub mod Shapes
pub mod Sums
