pub mod Pieces
pub mod Widths
pub mod Shapes
pub mod Signs
pub mod Letters
pub mod Drawn
pub mod Laws
pub mod Totals
