pub mod Items
pub mod Views
pub mod Rule
pub mod Words
pub mod Lends
