pub mod Behind
pub mod ReadBack
