-- Record text. To be read from top to bottom: what the contracts of `open` and of the text record rest on.
pub mod Entries
pub mod Grammar
pub mod Items
pub mod Reading
pub mod Opening
pub mod Texts
pub mod Laying
pub mod Parts
pub mod Laws
-- A functional model of the reader, and how the code follows it. The contracts do not cite it; a text record keeps its invariant by
-- it, and `records_read` ties that to the grammar.
pub mod Machine
pub mod Pass
pub mod Agree
pub mod Tags
pub mod Cutting
pub mod Cutter
pub mod Nest
pub mod Turns
pub mod Yielding
pub mod Passing
