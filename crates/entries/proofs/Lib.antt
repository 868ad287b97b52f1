pub mod EntryValues
