-- Every tiny table, by number: binary digits; the stream that a number gives, and what is refused; that each table comes once; how the code does it.
pub mod Binary
pub mod Tiny
pub mod Once
pub mod Steps
