pub mod Calls
pub mod Faults
pub mod Flaky
pub mod Told
pub mod MemSink
pub mod Over
