-- Rows of comma separated text, one line of wool each: what a byte does to a row, a row to a sheet, and the text of lines of wool.
pub mod Cases
pub mod Row
pub mod Sheet
pub mod Lines
pub mod RoundTrip
