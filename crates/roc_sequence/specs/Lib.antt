pub mod Places
pub mod Lists
pub mod Rising
pub mod Inner
