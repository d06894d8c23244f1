-- What the bed layer by layer is: the memory kept between layers, and what each offer answers and leaves.
pub mod Memory
pub mod Offer
pub mod Ready
pub mod Lent
pub mod Words
pub mod Answer
