pub mod Forms
pub mod Inside
pub mod Names
pub mod Pairs
pub mod Schema
pub mod Tables
pub mod Writers
