pub mod Codes
pub mod Layout
pub mod Levels
pub mod Parts
pub mod Places
pub mod Plans
pub mod RoleCode
