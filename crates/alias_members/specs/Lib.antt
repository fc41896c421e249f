pub mod MembersIn
pub mod Rows
