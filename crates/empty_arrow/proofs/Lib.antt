pub mod ArgumentLists
pub mod Base
pub mod ChosenArrows
mod Details
mod FunctionTurns
mod FutureParts
mod FutureResults
mod FutureTurns
pub mod GivenPaths
pub mod Giving
pub mod GraphLaws
pub mod OnePair
pub mod PairLaws
pub mod PairSteps
mod PartLaws
pub mod PathLengths
pub mod SomeOf
