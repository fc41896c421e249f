pub mod OwnAliases
pub mod Seeing
pub mod Reading
pub mod JobSources
pub mod Placing
