-- What appending a piece to an image needs and promises.
pub mod Levels
pub mod Appended
pub mod WriteLoop
pub mod Progress
