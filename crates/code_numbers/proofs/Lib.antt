mod Chains
mod Commanded
mod NamedTypes
