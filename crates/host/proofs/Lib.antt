-- Theorems about bytes and numbers, and laws that belong to no one function.
pub mod Laws
pub mod Front
pub mod Fits
pub mod Left
pub mod Determined
pub mod Later
pub mod Unique
pub mod Cases
