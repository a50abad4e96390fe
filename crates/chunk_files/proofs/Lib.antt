pub mod Directories
pub mod Opening
pub mod Encoded
pub mod Spelled
pub mod Formed
pub mod Pairings
pub mod Wordings
pub mod Fetching
