-- What the contracts of cube cite beside the rules. Assumes nothing.
pub mod AsRules
