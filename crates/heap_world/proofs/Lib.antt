pub mod Lengths
pub mod WorldLaw
pub mod Worlds
pub mod Numbers
pub mod StandsLaw
pub mod Existence
