pub mod Agendas
pub mod Runs
pub mod Turns
