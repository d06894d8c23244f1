-- The laws that belong to no one function.
pub mod Opened
pub mod OneWord
pub mod Laying
pub mod Recording
pub mod OneStep
pub mod Told
pub mod Cases
