pub mod AnswerWords
