pub mod ScalarSlots
