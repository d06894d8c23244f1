-- Why three tests decide a plan: the edges that a block owns are boxes of points; boxes that lie in a whole, apart, and as large as it together,
-- hold each of its points once.
pub mod Covering
pub mod Regions
pub mod Sums
pub mod Places
pub mod Refused
pub mod Decided
pub mod Once
pub mod Unique
pub mod Cases
pub mod Lowered
