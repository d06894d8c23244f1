-- One layer of whole numbers, cut into floats of another list, as short executable definitions. Assumes nothing.
pub mod Into
pub mod Refused
