pub mod Laws
pub mod Totals
pub mod Ranges
pub mod Unions
pub mod Markings
