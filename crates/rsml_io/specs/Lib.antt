pub mod Counts
pub mod Reading
pub mod Writing
pub mod SinkState
pub mod Held
pub mod FilesState
pub mod SystemSink
