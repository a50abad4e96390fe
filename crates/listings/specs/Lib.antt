pub mod Lines
pub mod Listings
pub mod Examples
pub mod SecondLine
pub mod Telling
pub mod Refusals
pub mod Making
