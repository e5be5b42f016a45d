pub mod ClauseSteps
pub mod EndSteps
pub mod MatchSteps
pub mod PatternSteps
