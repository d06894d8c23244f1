-- Laws of the whole box: parts of the grid and of the map are its layers, and layer after layer leaves what document 01 says.
pub mod Placed
pub mod Map
pub mod Steps
pub mod Looks
pub mod Lent
pub mod Last
pub mod Layer
pub mod Ranges
