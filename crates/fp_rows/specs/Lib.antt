pub mod FpRows
