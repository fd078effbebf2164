pub mod Words
pub mod Status
pub mod Parts
pub mod Judged
pub mod Ruling
pub mod Laws
