pub mod Effects
pub mod Contents
pub mod Directory
pub mod Order
pub mod Left
pub mod Lists
