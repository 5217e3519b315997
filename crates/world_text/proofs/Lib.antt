pub mod reading_laws
pub mod writing_laws
pub mod NumberSizes
pub mod TextPrefixes
