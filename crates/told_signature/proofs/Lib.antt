pub mod Listed
pub mod NamesIn
pub mod Search
pub mod LedNames
pub mod Signed
pub mod FaultKeys
