pub mod Refusals
pub mod Meanings
pub mod Readings
pub mod Joins
pub mod Rows
pub mod Corrected
