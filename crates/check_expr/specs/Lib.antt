pub mod Runs
pub mod Bodies
pub mod Targets
pub mod Tests
