pub mod Charging
pub mod Admitting
pub mod Admitted
