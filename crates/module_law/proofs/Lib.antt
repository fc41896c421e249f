pub mod Answer
pub mod Growing
pub mod ItemInFront
