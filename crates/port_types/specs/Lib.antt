pub mod Shape
pub mod Token
pub mod Numeral
pub mod PortText
pub mod PortGrammar
pub mod Tag
pub mod PortLaws
