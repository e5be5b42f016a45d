mod Carried
mod Counted
mod Rowing
mod Walking
mod Whole
