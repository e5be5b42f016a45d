mod Listed
mod Trees
mod Values
