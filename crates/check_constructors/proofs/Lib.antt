pub mod FirstFits
pub mod FittingChoices
pub mod SingleValues
