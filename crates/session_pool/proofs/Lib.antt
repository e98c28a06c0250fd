pub mod Sent
pub mod Lists
pub mod Placing
pub mod Gathering
