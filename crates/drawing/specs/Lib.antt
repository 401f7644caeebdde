pub mod Field
pub mod Drawing
