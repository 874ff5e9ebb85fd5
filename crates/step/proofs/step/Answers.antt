-- `step`: one law for each arm: its core does what the call of its name means.
use Rattle.model.specs.Answers.{of_done, of_opened, of_placed, of_covering, of_loaded}
use Rattle.model.specs.Meant.{meant, reply, refused}
use Rattle.model.specs.Run.{call}
use Rattle.step.specs.Kind.{kind_of, kind_for}
use Rattle.step.specs.StepLaws.{lent_words, lent_frames, sound_looked, region_looked, regions_looked, covers_looked, load_looked, stepped, listed}
use borrow.Author.Rules.{rules}
use mathlib.Core.Path.{refl}
use Rattle.step.proofs.step.Goals as goal

pub carve_core-requires : goal.carve_core-requires
carve_core-requires c = let lw = lent_words _ _ _ c.requires.files_value in let lf = lent_frames _ _ _ c.requires.files_value in record { words_len = search rules; starts_len = search rules; sound_words = search rules }

pub returns-in-Sound : goal.returns-in-Sound
unfolding call meant reply refused kind_of kind_for
returns-in-Sound c = let the = stepped of_done _ _ c.in-Sound.is _ _ _ _ (sound_looked _ c.requires.files_value) refl _ _ refl refl in record { does_with = the.0; starts_unchanged = the.1.0; result_value = the.1.1 }

pub returns-in-Open : goal.returns-in-Open
unfolding call meant reply refused kind_of kind_for
returns-in-Open c = let the = stepped of_opened _ _ c.in-Open.is _ _ _ _ (c.open_core.ensures _ _ c.requires.files_value) refl _ _ refl refl in record { does_with = the.0; starts_unchanged = the.1.0; result_value = the.1.1 }

pub returns-in-Close : goal.returns-in-Close
unfolding call meant reply refused kind_of kind_for
returns-in-Close c = let the = stepped of_done _ _ c.in-Close.is _ _ _ _ (c.close_core.ensures _ _ c.requires.files_value) refl _ _ refl refl in record { does_with = the.0; starts_unchanged = the.1.0; result_value = the.1.1 }

pub returns-in-CreatePrivate : goal.returns-in-CreatePrivate
unfolding call meant reply refused kind_of kind_for
returns-in-CreatePrivate c = let the = stepped of_placed _ _ c.in-CreatePrivate.is _ _ _ _ (c.create_private.ensures _ c.requires.files_value) refl _ _ refl refl in record { does_with = the.0; starts_unchanged = the.1.0; result_value = the.1.1 }

pub returns-in-CreateFile : goal.returns-in-CreateFile
unfolding call meant reply refused kind_of kind_for
returns-in-CreateFile c = let the = stepped of_placed _ _ c.in-CreateFile.is _ _ _ _ (c.create_file.ensures _ c.requires.files_value) refl _ _ refl refl in record { does_with = the.0; starts_unchanged = the.1.0; result_value = the.1.1 }

pub returns-in-CreateShared : goal.returns-in-CreateShared
unfolding call meant reply refused kind_of kind_for
returns-in-CreateShared c = let the = stepped of_placed _ _ c.in-CreateShared.is _ _ _ _ (c.create_shared.ensures _ c.requires.files_value) refl _ _ refl refl in record { does_with = the.0; starts_unchanged = the.1.0; result_value = the.1.1 }

pub returns-in-Remove : goal.returns-in-Remove
unfolding call meant reply refused kind_of kind_for
returns-in-Remove c = let the = stepped of_done _ _ c.in-Remove.is _ _ _ _ (c.remove_core.ensures _ _ c.requires.files_value) refl _ _ refl refl in record { does_with = the.0; starts_unchanged = the.1.0; result_value = the.1.1 }

pub returns-in-Clear : goal.returns-in-Clear
unfolding call meant reply refused kind_of kind_for
returns-in-Clear c = let the = stepped of_done _ _ c.in-Clear.is _ _ _ _ (c.clear_core.ensures _ _ c.requires.files_value) refl _ _ refl refl in record { does_with = the.0; starts_unchanged = the.1.0; result_value = the.1.1 }

pub returns-in-Carve : goal.returns-in-Carve
unfolding call meant reply refused kind_of kind_for
returns-in-Carve c = let the = listed _ _ c.in-Carve.is _ _ _ _ _ _ (c.carve_core.ensures _ _ c.requires.files_value) refl refl in record { does_with = the.0; starts_unchanged = the.1.0; result_value = the.1.1 }

pub returns-in-Covers : goal.returns-in-Covers
unfolding call meant reply refused kind_of kind_for
returns-in-Covers c = let the = stepped of_covering _ _ c.in-Covers.is _ _ _ _ (covers_looked _ _ _ _ _ (c.covers_core.ensures _ _ c.requires.files_value)) refl _ _ refl refl in record { does_with = the.0; starts_unchanged = the.1.0; result_value = the.1.1 }

pub returns-in-Region : goal.returns-in-Region
unfolding call meant reply refused kind_of kind_for
returns-in-Region c = let the = stepped of_placed _ _ c.in-Region.is _ _ _ _ (region_looked _ _ _ _ (c.region_core.ensures _ _ c.requires.files_value)) refl _ _ refl refl in record { does_with = the.0; starts_unchanged = the.1.0; result_value = the.1.1 }

pub returns-in-Regions : goal.returns-in-Regions
unfolding call meant reply refused kind_of kind_for
returns-in-Regions c = let the = listed _ _ c.in-Regions.is _ _ _ _ _ _ (regions_looked _ _ _ (c.regions_core.ensures _ _ c.requires.files_value)) refl refl in record { does_with = the.0; starts_unchanged = the.1.0; result_value = the.1.1 }

pub returns-in-Fault : goal.returns-in-Fault
unfolding call meant reply refused kind_of kind_for
returns-in-Fault c = let the = stepped of_done _ _ c.in-Fault.is _ _ _ _ c.fault_core.ensures refl _ _ refl refl in record { does_with = the.0; starts_unchanged = the.1.0; result_value = the.1.1 }

pub returns-in-Populate : goal.returns-in-Populate
unfolding call meant reply refused kind_of kind_for
returns-in-Populate c = let the = stepped of_done _ _ c.in-Populate.is _ _ _ _ c.populate_core.ensures refl _ _ refl refl in record { does_with = the.0; starts_unchanged = the.1.0; result_value = the.1.1 }

pub returns-in-Eager : goal.returns-in-Eager
unfolding call meant reply refused kind_of kind_for
returns-in-Eager c = let the = stepped of_done _ _ c.in-Eager.is _ _ _ _ c.eager_core.ensures refl _ _ refl refl in record { does_with = the.0; starts_unchanged = the.1.0; result_value = the.1.1 }

pub returns-in-CloneRegion : goal.returns-in-CloneRegion
unfolding call meant reply refused kind_of kind_for
returns-in-CloneRegion c = let the = stepped of_done _ _ c.in-CloneRegion.is _ _ _ _ (c.clone_region_core.ensures _ c.requires.files_value) refl _ _ refl refl in record { does_with = the.0; starts_unchanged = the.1.0; result_value = the.1.1 }

pub returns-in-Clone : goal.returns-in-Clone
unfolding call meant reply refused kind_of kind_for
returns-in-Clone c = let the = stepped of_done _ _ c.in-Clone.is _ _ _ _ (c.clone_core.ensures _ c.requires.files_value) refl _ _ refl refl in record { does_with = the.0; starts_unchanged = the.1.0; result_value = the.1.1 }

pub returns-in-Protect : goal.returns-in-Protect
unfolding call meant reply refused kind_of kind_for
returns-in-Protect c = let the = stepped of_done _ _ c.in-Protect.is _ _ _ _ (c.protect_core.ensures _ _ c.requires.files_value) refl _ _ refl refl in record { does_with = the.0; starts_unchanged = the.1.0; result_value = the.1.1 }

pub returns-in-Pin : goal.returns-in-Pin
unfolding call meant reply refused kind_of kind_for
returns-in-Pin c = let the = stepped of_done _ _ c.in-Pin.is _ _ _ _ (c.pin_core.ensures _ _ c.requires.files_value) refl _ _ refl refl in record { does_with = the.0; starts_unchanged = the.1.0; result_value = the.1.1 }

pub returns-in-Unpin : goal.returns-in-Unpin
unfolding call meant reply refused kind_of kind_for
returns-in-Unpin c = let the = stepped of_done _ _ c.in-Unpin.is _ _ _ _ (c.unpin_core.ensures _ _ c.requires.files_value) refl _ _ refl refl in record { does_with = the.0; starts_unchanged = the.1.0; result_value = the.1.1 }

pub returns-in-Load : goal.returns-in-Load
unfolding call meant reply refused kind_of kind_for
returns-in-Load c = let the = stepped of_loaded _ _ c.in-Load.is _ _ _ _ (load_looked _ _ _ _ (c.load_core.ensures _ c.requires.files_value)) refl _ _ refl refl in record { does_with = the.0; starts_unchanged = the.1.0; result_value = the.1.1 }

pub returns-in-Store : goal.returns-in-Store
unfolding call meant reply refused kind_of kind_for
returns-in-Store c = let the = stepped of_done _ _ c.in-Store.is _ _ _ _ (c.store_core.ensures _ c.requires.files_value) refl _ _ refl refl in record { does_with = the.0; starts_unchanged = the.1.0; result_value = the.1.1 }
