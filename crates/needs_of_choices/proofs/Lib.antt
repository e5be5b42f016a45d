pub mod Chosen
pub mod FieldByField
pub mod MembersByKeys
pub mod WantedByKeys
