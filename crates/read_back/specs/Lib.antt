pub mod Input
pub mod CanonicalReading
pub mod CanonicalTexts
pub mod ReadBack
