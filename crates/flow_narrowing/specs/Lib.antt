pub mod Asked
pub mod Belonging
pub mod Changes
pub mod Flows
pub mod inner
pub mod Judged
pub mod Meetings
pub mod Narrowed
