pub mod ColumnRead
pub mod ColumnWritten
pub mod ColumnBack
