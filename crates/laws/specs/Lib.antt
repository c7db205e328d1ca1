-- No proof cites these: `scan_back-append` of Lists, which waits for request i of document 02; `transpose_three` of Transposes, which says what a way back
-- may not halve (request l); `unread_to` of Unread, which says of a whole growth what `unread` says of a step (request b); `scale_first` and `fresh_taken`
-- of Verdicts, which say what names a skipped element first (request a).

-- lists, and going through them
pub mod Lists
pub mod Any
pub mod All
pub mod Passes
pub mod Sizes
pub mod Blocks
pub mod Backward
-- bytes
pub mod Bytes
-- doubles and matrices
pub mod Swap
pub mod Same
pub mod Halves
pub mod Signs
pub mod Zeros
pub mod Noise
pub mod Squares
pub mod Transposes
pub mod RootLaws
pub mod Unread
-- the run: its shapes, and what it wrote read back
pub mod Flat
pub mod ReadBack
pub mod Verdicts
pub mod Long
pub mod Shapes
pub mod Kinds
pub mod Unseen
pub mod Looked
pub mod Entries
pub mod Reports
pub mod RunsOff
pub mod Told
-- the refusals
pub mod Says
pub mod Numbered
pub mod Accepted
-- a run in stretches
pub mod Kept
pub mod SavedBack
pub mod Spare
pub mod Cut
pub mod Written
pub mod AcceptedStretch
pub mod Later
