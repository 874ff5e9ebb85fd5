-- Theorems that must-fail edits of the definitions refuse: they stand here, and not in specs/, so that a false one reads as refused.
-- P1 to P12, and two points of our own
pub mod Points
-- laws
pub mod PopulateSoundLaws
pub mod FileLaws
