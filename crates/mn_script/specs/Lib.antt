pub mod Commands
pub mod Forms
pub mod Grammar
pub mod Inside
pub mod Reading
