pub mod Keys
pub mod Segments
pub mod Written
pub mod Kinds
pub mod Tables
pub mod Answers
pub mod Refusals
pub mod Trips
