pub mod Accepted
mod ExampleConstructs
pub mod ExampleRuns
pub mod Examples
pub mod HeadlineLemmas
pub mod Loads
pub mod MoveLemmas
pub mod PromptLemmas
pub mod ScheduleLemmas
pub mod ScriptLemmas
