pub mod Device
pub mod Laws
