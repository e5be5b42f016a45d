pub mod Written
pub mod Texts
pub mod Calls
pub mod Lists
pub mod Errors
pub mod Members
pub mod Printed
