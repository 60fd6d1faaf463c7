-- What RFC 9649 and documents 01 and 02 say of pixels, as definitions that compute. They need no code to be read:
-- `Pixel` is a record of four numbers.
pub mod Choice
pub mod Indices
pub mod Byte
pub mod Pixel
pub mod Picture
pub mod Sizes
pub mod Predictor
pub mod Color
pub mod SubtractGreen
pub mod ColorTable
pub mod ColorMap
pub mod Chain
pub mod Refusals
pub mod Stages
pub mod Made
pub mod Lists
pub mod Retouch
pub mod Calls
pub mod Earlier
pub mod Desk
pub mod Report
pub mod Promises
pub mod ValidStep
