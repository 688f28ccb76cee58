pub mod Parts
pub mod Fit
pub mod Laws
pub mod Exact
pub mod Pruned
pub mod LaidOut
