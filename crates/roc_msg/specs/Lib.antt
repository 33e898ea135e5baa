pub mod InPlace
pub mod Facts
pub mod Msg
pub mod Outbox
pub mod Reason
pub mod Equality
pub mod Equalities
pub mod MsgEquality
