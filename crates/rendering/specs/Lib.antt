pub mod Laid
pub mod Rendered
pub mod View
pub mod Refusals
pub mod Laws
