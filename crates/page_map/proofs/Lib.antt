pub mod Buckets
pub mod MapInvariant
