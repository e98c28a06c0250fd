pub mod Words
pub mod Grammar
pub mod Commands
pub mod Splits
