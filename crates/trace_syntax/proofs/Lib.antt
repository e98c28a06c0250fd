pub mod Fronts
pub mod Steps
pub mod LinesRead
pub mod LinesFound
pub mod ManyLines
pub mod ReadFormed
pub mod TraceLaws
