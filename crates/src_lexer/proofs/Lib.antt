mod KnownNames
pub mod Longest
pub mod FirstPieces
pub mod Unread
pub mod TokenByToken
pub mod OneReading
pub mod SpansOfTokens
pub mod OneDigit
