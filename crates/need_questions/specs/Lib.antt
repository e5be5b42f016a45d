pub mod inner
pub mod NeedsAsked
pub mod NeedStops
