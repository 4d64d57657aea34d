pub mod Counting
pub mod Items
pub mod Numerals
pub mod Seeking
