-- A call of the mesher on marked lists: which part of each is lent, what all of them hold afterwards, and whether the marks are kept. Assumes nothing.
pub mod Marked
pub mod Kept
