pub mod Board
pub mod Lines
pub mod Commands
pub mod Asking
