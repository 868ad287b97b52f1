pub mod Alpha
