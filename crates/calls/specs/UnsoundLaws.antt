-- Every call answers BadTable on a machine that breaks R1 to R6, and leaves it.
use Rattle.std.specs.Prelude.{◌≡◌, ℕ, Bool, false, Err}
use Rattle.answers.specs.declared.Refusal.TheVariants.{BadTable}
use Rattle.model.specs.declared.Place.{Place}
use Rattle.model.specs.declared.Region.{Region}
use Rattle.model.specs.Machine.{State}
use Rattle.model.specs.Answers.{leaving, not_listed}
use Rattle.model.specs.SoundTest.{soundb}
use Rattle.model.specs.Calls as calls
use Rattle.rows.specs.GuardedLaws.{unsound}

module _ (s : State) (e : soundb s ≡ false) where
  pub sound_unsound : calls.sound s ≡ leaving (Err BadTable) s
  unfolding calls.sound
  sound_unsound = unsound s _ _ _ e

  pub open_unsound : (a size : ℕ) → calls.open_process s a size ≡ leaving (Err BadTable) s
  unfolding calls.open_process
  open_unsound a size = unsound s _ _ _ e

  pub close_unsound : (p : ℕ) → calls.close s p ≡ leaving (Err BadTable) s
  unfolding calls.close
  close_unsound p = unsound s _ _ _ e

  create_unsound : (p : ℕ) (place : Place) (whole : Bool) (r : Region) → calls.create s p place whole r ≡ leaving (Err BadTable) s
  unfolding calls.create
  create_unsound p place whole r = unsound s _ _ _ e

  pub private_unsound : (p : ℕ) (place : Place) (whole : Bool) (size flags : ℕ) (copy thread : Bool) → calls.create_private s p place whole size flags copy thread ≡ leaving (Err BadTable) s
  unfolding calls.create_private
  private_unsound p place whole size flags copy thread = create_unsound p place whole _

  pub file_unsound : (p : ℕ) (place : Place) (size flags : ℕ) (copy thread : Bool) (file offset len : ℕ) → calls.create_file s p place size flags copy thread file offset len ≡ leaving (Err BadTable) s
  unfolding calls.create_file
  file_unsound p place size flags copy thread file offset len = create_unsound p place false _

  pub shared_unsound : (p : ℕ) (place : Place) (size : ℕ) → calls.create_shared s p place size ≡ leaving (Err BadTable) s
  unfolding calls.create_shared
  shared_unsound p place size = create_unsound p place false _

  pub region_unsound : (p a : ℕ) → calls.region s p a ≡ leaving (Err BadTable) s
  unfolding calls.region
  region_unsound p a = unsound s _ _ _ e

  pub regions_unsound : (p : ℕ) → calls.regions s p ≡ leaving (not_listed BadTable) s
  unfolding calls.regions
  regions_unsound p = unsound s _ _ _ e

  pub covers_unsound : (p a end : ℕ) → calls.covers s p a end ≡ leaving (Err BadTable) s
  unfolding calls.covers
  covers_unsound p a end = unsound s _ _ _ e

  pub load_unsound : (p a : ℕ) → calls.load s p a ≡ leaving (Err BadTable) s
  unfolding calls.load
  load_unsound p a = unsound s _ _ _ e

  pub store_unsound : (p a byte : ℕ) → calls.store s p a byte ≡ leaving (Err BadTable) s
  unfolding calls.store
  store_unsound p a byte = unsound s _ _ _ e

  pub remove_unsound : (p a : ℕ) → calls.remove s p a ≡ leaving (Err BadTable) s
  unfolding calls.remove
  remove_unsound p a = unsound s _ _ _ e

  pub clear_unsound : (p : ℕ) → calls.clear s p ≡ leaving (Err BadTable) s
  unfolding calls.clear
  clear_unsound p = unsound s _ _ _ e

  pub carve_unsound : (p a end : ℕ) → calls.carve s p a end ≡ leaving (not_listed BadTable) s
  unfolding calls.carve
  carve_unsound p a end = unsound s _ _ _ e

  pub fault_unsound : (p a : ℕ) (w : Bool) → calls.fault s p a w ≡ leaving (Err BadTable) s
  unfolding calls.fault
  fault_unsound p a w = unsound s _ _ _ e

  pub populate_unsound : (p a len : ℕ) (w : Bool) → calls.populate s p a len w ≡ leaving (Err BadTable) s
  unfolding calls.populate
  populate_unsound p a len w = unsound s _ _ _ e

  pub eager_unsound : (p : ℕ) → calls.eager s p ≡ leaving (Err BadTable) s
  unfolding calls.eager
  eager_unsound p = unsound s _ _ _ e

  pub clone_region_unsound : (p a q : ℕ) → calls.clone_region s p a q ≡ leaving (Err BadTable) s
  unfolding calls.clone_region
  clone_region_unsound p a q = unsound s _ _ _ e

  pub clone_unsound : (p q : ℕ) → calls.clone s p q ≡ leaving (Err BadTable) s
  unfolding calls.clone
  clone_unsound p q = unsound s _ _ _ e

  pub protect_unsound : (p a flags : ℕ) → calls.protect s p a flags ≡ leaving (Err BadTable) s
  unfolding calls.protect
  protect_unsound p a flags = unsound s _ _ _ e

  pub pin_unsound : (p a : ℕ) → calls.pin s p a ≡ leaving (Err BadTable) s
  unfolding calls.pin
  pin_unsound p a = unsound s _ _ _ e

  pub unpin_unsound : (p a : ℕ) → calls.unpin s p a ≡ leaving (Err BadTable) s
  unfolding calls.unpin
  unpin_unsound p a = unsound s _ _ _ e
