mod Fitted
mod InOrder
mod Returned
