-- Which edge shows that blocks are no plan, and which blocks own it; and, for the code alone, what is seen from a point and the way from point to point.
pub mod Witness
pub mod Steps
pub mod Told
