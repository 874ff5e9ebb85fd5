-- What the look-ups are stated and proved by: what each looks for, what a search through rows knows.
pub mod Named
pub mod NamedLaws
pub mod NamedSlotLaws
pub mod ScanLaws
pub mod Lookups
pub mod LookupsLaws
pub mod Attached
pub mod AttachedLaws
pub mod Backed
pub mod BackedLaws
pub mod NextEntry
pub mod NextEntryLaws
pub mod WalkLaws
pub mod FirstOfLaws
