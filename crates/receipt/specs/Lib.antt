pub mod Kind
pub mod Receipt
