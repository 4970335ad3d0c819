pub mod Matrix
pub mod RowLends
