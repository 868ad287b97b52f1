pub mod Words64
