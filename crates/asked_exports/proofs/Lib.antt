mod Enough
mod Cuts
mod Found
mod Gathered
mod Outside
