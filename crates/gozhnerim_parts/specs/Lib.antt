pub mod Parts
pub mod TestedInC
