pub mod CodeNames
pub mod Rising
pub mod InOrder
