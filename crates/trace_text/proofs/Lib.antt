pub mod JsonTexts
pub mod Standing
pub mod LinesAgain
