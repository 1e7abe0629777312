pub mod Records
pub mod Division
pub mod Fairness
pub mod Cuts
