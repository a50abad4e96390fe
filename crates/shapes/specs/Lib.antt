pub mod Arrays
pub mod Limits
pub mod Views
pub mod Refusals
pub mod Laws
pub mod Texts
