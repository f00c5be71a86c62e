pub mod RowWritten
pub mod RowRead
