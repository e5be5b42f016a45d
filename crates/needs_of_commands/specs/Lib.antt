pub mod Askable
pub mod inner
pub mod Laws
pub mod Loans
