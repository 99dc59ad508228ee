pub mod Bodies
pub mod Gaps
pub mod SetGlue
pub mod PageText
pub mod Printed
pub mod Seated
pub mod Sheets
