pub mod SpanStores
pub mod Lookups
pub mod Passing
mod PlainLaws
mod PlainSpans
mod SpanLaws
pub mod StoreLaws
mod TagLaws
pub mod CallReports
