-- The laws that belong to no one function.
pub mod Results
pub mod Progressing
pub mod Filling
pub mod Searching
pub mod Answering
pub mod History
pub mod Accepted
pub mod Steps
pub mod Prefixes
pub mod Parts
pub mod OneFile
pub mod RoundTrip
pub mod Settled
pub mod Rewritten
pub mod Records
pub mod Cases
