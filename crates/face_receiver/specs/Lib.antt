pub mod Reception
