pub mod Fronted
