pub mod Kept
pub mod KeptBooks
pub mod Wanted
