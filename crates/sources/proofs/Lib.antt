pub mod Clearing
pub mod Lifting
pub mod Joining
pub mod Alikes
pub mod Insides
pub mod Placing
pub mod Tabling
pub mod Correcting
