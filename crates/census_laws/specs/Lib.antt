pub mod Censuses
