-- Main theorems over the contracts, applied to calls on one small grid, with the numbers that come out: a premise that no call meets would show here.
pub mod Made
pub mod OneFlag
pub mod OnePoint
pub mod Applied
pub mod Planned
pub mod Bounded
pub mod WholeNumbers
pub mod Moved
pub mod Tallied
