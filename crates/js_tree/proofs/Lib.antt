pub mod CodeLists
pub mod ItemLists
pub mod Lists
pub mod TypeLists
