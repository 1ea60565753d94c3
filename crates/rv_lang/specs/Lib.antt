pub mod Grammar
pub mod Lexing
pub mod Tokens
pub mod Words
