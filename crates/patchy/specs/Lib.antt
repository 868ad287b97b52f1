pub mod Patchy
