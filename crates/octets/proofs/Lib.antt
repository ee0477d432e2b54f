pub mod Sentences
pub mod Bits
pub mod Words
pub mod Tables
pub mod Counting
pub mod Vocabulary
