pub mod Kinds
pub mod Layouts
pub mod Refusals
pub mod Bodies
pub mod Contents
