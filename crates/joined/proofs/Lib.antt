-- The joined call.
pub mod Alone
pub mod JoinedCall
