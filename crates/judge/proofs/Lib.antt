-- Laws of the answer: what each test says of it, and what an answer of 0 says.
pub mod Judging
