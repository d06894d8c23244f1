-- The layers of a grid, offered one after the other, and what came out of them.
pub mod Fed
