mod Commanded
pub mod Descent
mod MayAsk
mod MayPlaces
mod MayQuestions
mod MayRows
pub mod Numbered
mod Parts
mod PassedDefined
