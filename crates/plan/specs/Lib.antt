-- Request 10's refusals and its yes or no; and, for the code alone, boxes of points, their sizes in two words, and the tests of a plan.
pub mod Plan
pub mod Triples
pub mod Region
pub mod Size
pub mod Tests
pub mod Words
