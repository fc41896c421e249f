pub mod BoundInOrder
pub mod Envs
pub mod InOrder
pub mod NotesInOrder
pub mod Sayings
pub mod SecondExports
pub mod TypeRows
