pub use Rattle.script_run.specs.declared.ending.WalkEnd
pub mod Run
pub mod Script
pub mod Steps
