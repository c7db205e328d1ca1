pub mod Refusals
pub mod Values
-- a run in stretches
pub mod StretchRefusals
pub mod StretchUnheard
pub mod Stretches
-- the marker of a list that runs out
pub mod Marked
-- a list of equal transitions
pub mod Copies
-- tables that ignore the offsets too
pub mod Offsets
-- what is mirrored
pub mod Mirrored
