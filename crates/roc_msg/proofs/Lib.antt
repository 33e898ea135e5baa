pub mod FactFronts
pub mod Sent
