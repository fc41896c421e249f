pub mod Amounts
pub mod Modules
pub mod Standing
pub mod Making
pub mod Answered
