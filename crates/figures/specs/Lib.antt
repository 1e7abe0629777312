pub mod Figures
pub mod SmallDay
