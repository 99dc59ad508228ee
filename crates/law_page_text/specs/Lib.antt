pub mod Heights
pub mod PageLaws
