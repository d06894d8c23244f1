-- Weighing a mesh of any size, as short executable definitions: the weight over each triangle, the sums, the refusals, and a whole number in two words of
-- 64 bits. Whole numbers throughout. Assumes nothing.
pub mod Sums
pub mod Words
pub mod Biased
pub mod Answers
