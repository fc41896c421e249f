pub mod KeptKeys
pub mod TypeLists
