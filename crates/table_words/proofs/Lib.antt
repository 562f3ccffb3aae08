pub mod AllowedLaws
