pub mod InOrder
pub mod OneRun
pub mod Parts
pub mod Script
