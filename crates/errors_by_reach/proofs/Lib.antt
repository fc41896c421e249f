pub mod Tables
pub mod OneView
pub mod Laws
