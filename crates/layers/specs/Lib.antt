-- Layers over any record. What they show, and the laws of it:
pub mod Layers
pub mod Laws
-- How a view keeps that:
pub mod Views
