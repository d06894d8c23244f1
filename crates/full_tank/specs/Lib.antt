-- What the theorems on a full tank are stated with. Assumes nothing.
pub mod Tank
