pub mod Figures
pub mod Unheard
pub mod Values
pub mod Recorded
pub mod Totals
pub mod Reports
pub mod Conditions
pub mod Refusals
pub mod Call
pub mod Cases
-- a run in stretches
pub mod WholeStretch
pub mod CutOnce
pub mod Cuts
pub mod StretchConditions
pub mod StretchRefusals
pub mod StretchValues
pub mod StretchUnheard
pub mod StretchCall
pub mod Stretches
-- the marker of a list that runs out
pub mod Marked
-- which T a step takes, and a list of equal ones
pub mod Steps
pub mod Copies
-- tables that ignore the offsets too
pub mod Offsets
-- what is mirrored, and what is not
pub mod Mirrored
pub mod Unmirrored
