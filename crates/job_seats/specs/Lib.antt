pub use Rattle.work_shares.specs.analyst
pub use Rattle.work_shares
pub mod Seats
pub mod Left
pub mod Working
