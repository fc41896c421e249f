mod Types
mod Tables
mod Facts
mod Steps
mod Trees
mod Written
mod Forms
mod Cycle
mod Modules
mod Reaching
pub mod Keys
