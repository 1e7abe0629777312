pub mod CreditDays
pub mod CreditFigures
