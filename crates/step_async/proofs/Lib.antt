pub mod GivenLaws
pub mod SeenLaws
