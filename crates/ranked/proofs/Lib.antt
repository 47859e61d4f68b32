pub mod Places
pub mod Full
pub mod Ages
