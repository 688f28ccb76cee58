pub mod AnswerLines
pub mod FaultLines
pub mod Runs
pub mod WordTexts
