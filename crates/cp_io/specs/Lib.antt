-- what contracts rest on
pub mod Causes
pub mod Streams
pub mod Answered
pub mod Commands
pub mod Fakes
