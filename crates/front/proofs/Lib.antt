pub mod Fronts
pub mod Accepted
pub mod Arrival
