pub mod FaultKeys
pub mod Levels
pub mod NameRows
pub mod NoteSteps
pub mod Pushed
pub mod Spans
