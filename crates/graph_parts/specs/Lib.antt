-- what contracts rest on
pub mod Ends
pub mod Asking
pub mod Fitting
pub mod Texts
pub mod Answer
pub mod Run
