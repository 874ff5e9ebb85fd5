-- A page's own frame: its entry, and all that changes with it.
pub mod Entered
pub mod EnteredLaws
pub mod Owned
pub mod OwnedLaws
