pub mod Chunkwise
pub mod Agreeing
pub mod Fetched
pub mod Answering
