pub mod ByNeeds
