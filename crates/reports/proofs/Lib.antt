pub mod Listing
pub mod Reporting
pub mod OwnNames
pub mod Sourcing
pub mod OnlyReport
pub mod RecordLines
