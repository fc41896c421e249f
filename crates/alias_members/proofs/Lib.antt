pub mod MemberLemmas
pub mod MembersIn
pub mod ByRows
