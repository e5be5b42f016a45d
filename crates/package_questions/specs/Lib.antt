pub mod PackageAnswers
