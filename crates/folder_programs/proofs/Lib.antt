pub mod Ending
pub mod MainFacts
pub mod PackageFacts
pub mod ProgramAnswers
pub mod ProgramTexts
pub mod QuestionAnswers
