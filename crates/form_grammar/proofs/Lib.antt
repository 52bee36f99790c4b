pub mod ParserSound
pub mod ParserComplete
pub mod ParserFacts
pub mod TextFacts
pub mod WorkedFacts
