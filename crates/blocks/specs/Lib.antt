-- Gate blocks. To be read from top to bottom: the layout, the same by places in the bytes, which is what the contracts cite, and that the two agree.
pub mod Layout
pub mod Places
pub mod Laws
-- What the code passes on between its functions, and the proofs that a record gives of itself.
pub mod Reading
pub mod Shaping
