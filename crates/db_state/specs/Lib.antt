pub mod Live
pub mod Plans
pub mod Inside
