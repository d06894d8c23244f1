-- Document 02, request 8, as short executable definitions over those of crate rules: the directed sides that an index list shows, the
-- premise under which the skin has no hole, and the answer of the code that tests it. Assumes nothing.
pub mod Links
pub mod Enclosed
pub mod Scan
pub mod Answer
