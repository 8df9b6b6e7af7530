-- The check of blocks and packets, and what it finds.
pub mod Sum
pub mod Quick
pub mod OneByte
