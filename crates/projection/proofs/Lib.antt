pub mod Flags
pub mod Leading
pub mod Lemmas
pub mod Places
