pub mod Outside
pub mod Bodies
