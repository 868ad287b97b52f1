pub mod WorkLimit
