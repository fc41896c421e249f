pub mod Scope
pub mod Boundary
pub mod Exports
pub mod LocalSignature
pub mod Faults
