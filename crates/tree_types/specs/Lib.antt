pub mod TreeTypes
