pub mod AnswerWordLaws
