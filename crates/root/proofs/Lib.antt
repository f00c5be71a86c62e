pub mod Newton
pub mod WholeRoot
