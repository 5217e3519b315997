-- What the lines of a world mean.
pub mod Words
pub mod Numbers
pub mod Next
pub mod Leading
pub mod Reader
pub mod Header
pub mod Objects
pub mod Closing
pub mod Line
pub mod Fast
pub mod Limits
pub mod Accepts
