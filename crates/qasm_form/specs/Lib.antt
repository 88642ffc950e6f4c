pub mod Symbols
pub mod Languages
pub mod Expressions
pub mod Openings
pub mod Grammar
pub mod Statements
pub mod Postfix
pub mod Numbers
