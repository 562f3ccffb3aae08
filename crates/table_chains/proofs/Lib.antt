pub mod ComesLaws
pub mod EachBelow
pub mod MarkLaws
pub mod OneWayLaws
