pub mod Least
pub mod Cells
pub mod OneThread
