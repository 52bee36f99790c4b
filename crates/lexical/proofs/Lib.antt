pub mod KindFacts
mod RoundingFacts
pub mod NumberFacts
