pub mod PackageAsking
