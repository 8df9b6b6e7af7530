-- A box's start from blocks, in reading order: what each byte of a stream does; what each block does, and the blocks of a file; what the code's steps
-- need; and that it is what reading the file, then gathering, gives. Nobody has to believe Byte: `end_refusal_lem` of Refused says what is found wrong
-- with a stream, `accepted_reader` how far one that is accepted is in, `kept-gathered` of Theorem what is kept of it. `file_refused`, `file_started`
-- and `many_refused` of File are of a file's blocks.
pub mod Byte
pub mod Block
pub mod Fold
pub mod Steps
pub mod Answers
pub mod Runs
pub mod Refused
pub mod Kept
pub mod Gathered
pub mod Theorem
pub mod File
