pub mod Requests
pub mod Exported
pub mod Exporting
pub mod Plans
