-- The stored table, in reading order: the stream, a block, a file, what is written, that reading and writing undo each other, and the two forms.
-- A reader has to believe Stream, Block, File and Form; RoundTrip and Form/Laws state the theorems; the others are facts, and what private
-- functions say.
pub mod Seen
pub mod Stream
pub mod Block
pub mod File
pub mod Written
pub mod RoundTrip
pub mod Form
pub mod StreamLaws
pub mod BlockLaws
pub mod FileLaws
pub mod View
