pub mod Names
pub mod Shares
pub mod Findings
pub mod Outside
pub mod Agreement
pub mod Texts
pub mod Misfits
