mod Odd
mod Bindings
mod Scopes
mod Breaks
