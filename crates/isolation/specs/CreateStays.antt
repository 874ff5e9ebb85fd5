-- Creation leaves every page as it was seen.
use Rattle.std.specs.Prelude.{◌≡◌, ◌⊎◌, ◌≢◌, Bool, true, false, ◌&&◌, not, cond, List, [], ◌∷◌, ◌++◌, length, get_or, set, ltb, Option, Some, None}
use Rattle.std.proofs.Math.Path.{refl}
use Rattle.std.proofs.Common.{ap, sym, subst, ◌∙◌, inl, inr, true≢false, arith, get_or-set_other, ltb-true, ltb-false}
use Prim.Native.Nat.{ℕ, ◌+◌, ◌/◌, ◌%◌, ◌≤◌, ◌<◌}
use Rattle.std.proofs.Math.Decide.{ℕ_discrete}
use Rattle.model.specs.declared.Region.{Region}
use Rattle.model.specs.declared.Place.{Place}
use Rattle.model.specs.Machine.{Machine, State, with_machine, with_frames, with_order, process_at, region_at, row_of, order_of, mapped_of, no_region, no_entry}
use Rattle.model.specs.Lookup.{pages_for, free_slot, row_found, is_found}
use Rattle.model.specs.Backing.{lowest_run, claim, with_backings, zero_frames}
use Rattle.model.specs.Create.{create_refusals, core_create, add_region, with_run, placed_at, spot, round_up, run_needed, wanted_private, wanted_file, wanted_shared}
use Rattle.model.specs.Calls as calls
use Rattle.model.specs.Run.{Call, call, step}
use Rattle.model.specs.Sound.{Sound, Used}
use Rattle.model.specs.Posix.{PrivateAt}
use Rattle.laws.specs.In.{In}
use Rattle.laws.specs.InLaws.{in_left, in_either, once_last}
use Rattle.keeping.specs.Owing.{Owing, Backs, row_at, nothing}
use Rattle.keeping.specs.OwingOfSound.{sound_owing}
use Rattle.keeping.specs.OwingLaws.{open_low}
use Rattle.keeping.specs.BackingsKept.{FreeRun}
use Rattle.keeping.specs.FreeLaws.{lowest_run_free}
use Rattle.keeping.specs.OrderKept.{order_other, order_reads, mapped_order}
use Rattle.keeping.specs.ArgumentLaws.{open_by_test}
use Rattle.laws.specs.InListsLaws.{few_below}
use Rattle.keeping.specs.AddedKept.{free_slot_found}
use Rattle.keeping.specs.CreateKept.{create_private_kept, create_file_kept, create_shared_kept}
use Rattle.isolation.specs.Statements.{Stays}
use Rattle.isolation.specs.ViewLaws.{Home}
use Rattle.isolation.specs.Undisturbed.{Undisturbed, stays_home, guarded_same, CallStays}
use Rattle.isolation.specs.LoneHolder.{in_base}
use Rattle.isolation.specs.FrameBytes.{zero_else}
use Rattle.isolation.specs.StoreStays.{stay_same}
use Rattle.isolation.specs.Quiet.{Quiet, row_is, quiet_state}

-- ---- a region added

module _ (d : ℕ → ℕ) (m : Machine) (o : Owing d m) (p : ℕ) (opened : (process_at m p).opened ≡ 1) (free : not (is_found (free_slot m p)) ≡ false) (r : Region) where
  abbrev u : ℕ
  u = row_found (free_slot m p)

  low : p < 8
  low = open_low m o p opened

  slot : (u < 64) × ((region_at m p u).kind ≡ 0)
  slot = free_slot_found d m o p low free

  abbrev longer : List ℕ
  longer = order_of m p ++ (u ∷ [])

  few : length longer ≤ 64
  few = few_below 64 longer (once_last u (order_of m p) (o.once p low) (λ i. (o.listed p u low i).1 slot.1)) (λ x i. side x (in_either x (order_of m p) (u ∷ []) i))
    where
      side : (x : ℕ) → In x (order_of m p) ⊎ In x (u ∷ []) → x < 64
      side x (inl i) = (o.listed p x low i).0
      side x (inr (inl e)) = subst (λ (y : ℕ). y < 64) (sym e) slot.0
      side x (inr (inr e)) = absurd e

  pub add_order : order_of (add_region m p r) p ≡ longer
  unfolding add_region with_order order_of
  add_order = order_reads d m o p opened longer few

  pub add_other : (q : ℕ) → q ≢ p → order_of (add_region m p r) q ≡ order_of m q
  unfolding add_region with_order order_of
  add_other q z = order_other d m o p opened longer q z

  pub add_mapped : (q : ℕ) → mapped_of (add_region m p r) q ≡ mapped_of m q
  unfolding add_region with_order mapped_of
  add_mapped q = mapped_order d m o p opened longer q

  pub add_listed : (q t : ℕ) → In t (order_of m q) → In t (order_of (add_region m p r) q)
  add_listed q t i = go (ℕ_discrete q p)
    where
      go : Dec (q ≡ p) → In t (order_of (add_region m p r) q)
      go (yes z) = subst (λ (j : ℕ). In t (order_of (add_region m p r) j)) (sym z) (subst (λ l. In t l) (sym add_order) (in_left t (order_of m p) (u ∷ []) (subst (λ (j : ℕ). In t (order_of m j)) z i)))
      go (no z) = subst (λ l. In t l) (sym (add_other q z)) i

  -- a region in use is in another row
  pub add_apart : (q t : ℕ) → Used (region_at m q t) → row_of q t ≢ row_of p u
  add_apart q t used z = used (ap (λ (j : ℕ). (row_at m j).kind) z ∙ slot.1)

  pub add_regions : (add_region m p r).regions ≡ set m.regions (row_of p u) r
  unfolding add_region with_order
  add_regions = refl

  pub add_entries : (add_region m p r).entries ≡ m.entries
  unfolding add_region with_order
  add_entries = refl

  pub add_files : (add_region m p r).files ≡ m.files
  unfolding add_region with_order
  add_files = refl

  pub add_row : (q t : ℕ) → Used (region_at m q t) → region_at (add_region m p r) q t ≡ region_at m q t
  add_row q t used = ap (λ l. get_or l (row_of q t) no_region) add_regions ∙ get_or-set_other m.regions (row_of p u) (row_of q t) r no_region (add_apart q t used)

  pub add_quiet : (q t pg : ℕ) → q < 8 → In t (order_of m q) → Quiet m (add_region m p r) q t pg
  add_quiet q t pg h i = record {
    files = add_files;
    row = row_is (add_row q t (o.listed q t h i).1);
    forth = λ j x y. ap (λ l. get_or l j no_entry) add_entries;
    back = λ j x y. ap (λ l. get_or l j no_entry) add_entries;
    listed = add_listed q t i;
  }

-- a frame in use lies outside a free run
pub run_outside : {d : ℕ → ℕ} (m : Machine) → Owing d m → (f n : ℕ) → FreeRun m f n → (row pg base fr : ℕ) → Backs m row pg base fr → (fr < f) ⊎ (f + n ≤ fr)
run_outside m o f n run row pg base fr b = go (ltb fr f) refl (ltb fr (f + n)) refl
  where
    go : (x : Bool) → ltb fr f ≡ x → (y : Bool) → ltb fr (f + n) ≡ y → (fr < f) ⊎ (f + n ≤ fr)
    go true e y g = inl (ltb-true fr f e)
    go false e false g = inr (ltb-false fr (f + n) g)
    go false e true g = let k = in_base m o row pg base fr b in let k0 = k.0 in let k1 = k.1 in let a = run.free fr (ltb-false fr f e) (ltb-true fr (f + n) g) base k0 in absurd (omega arith)

module _ (s : State) (sound : Sound s) (p : ℕ) (place : Place) (eager : Bool) (r : Region) (opened : (process_at s.machine p).opened ≡ 1) (free : not (is_found (free_slot s.machine p)) ≡ false) (q c : ℕ) (private : PrivateAt s q c) where
  abbrev m : Machine
  m = s.machine

  o : Owing nothing m
  o = sound_owing s sound

  plain : (x : Region) → Sound (with_machine s (add_region m p x)) → Stays s (with_machine s (add_region m p x)) q c
  plain x z =
      let n : Machine = add_region m p x in
      stays_home s (with_machine s n) sound (sound_owing (with_machine s n) z) q c private (λ t home k. quiet_state s n q t (c / 4096) (c % 4096) (add_quiet nothing m o p opened free x q t (c / 4096) home.low home.listed))

  -- with a run of frames
  abbrev ran : ℕ → ℕ → State
  ran f n = with_machine (with_frames s (zero_frames f n s.frames)) (claim m f n)

  abbrev full : ℕ → ℕ → Region → State
  full f n x = with_machine (ran f n) (add_region (claim m f n) p x)

  with_run_stays : (f n : ℕ) → FreeRun m f n → (x : Region) → Sound (full f n x) → Stays s (full f n x) q c
  unfolding claim with_backings add_region with_order free_slot order_of
  with_run_stays f n run x z = stays_home s (full f n x) sound (sound_owing (full f n x) z) q c private un
    where
      un : (t : ℕ) → Home m q t (c / 4096) → (region_at m q t).kind ≢ 3 → Undisturbed s (full f n x) q t (c / 4096) (c % 4096)
      un t home k =
          let w = add_quiet nothing m o p opened free x q t (c / 4096) home.low home.listed in
          record {
            bytes = refl;
            files = refl;
            look = w.row.look;
            ranged = w.row.ranged;
            range = w.row.range;
            forth = λ i x y. refl;
            back = λ i x y. refl;
            frames = λ base fr b. zero_else m.frame_count f n s.frames sound.r6.sized.frames run.inside fr (c % 4096) (omega arith) (run_outside m o f n run (row_of q t) (c / 4096) base fr b);
            listed = w.listed;
          }

  create_core : (run_needed eager r && not (is_found (lowest_run m (pages_for r.size)))) ≡ false → Sound (core_create s p place eager r) → Stays s (core_create s p place eager r) q c
  unfolding core_create with_run
  create_core found z = go (run_needed eager r) refl (lowest_run m (pages_for r.size)) refl z
    where
      start : ℕ
      start = row_found (spot m p place (round_up r.size))

      never : run_needed eager r ≡ true → lowest_run m (pages_for r.size) ≡ None → ⊥
      never e q = true≢false (sym (rw (e, q) refl) ∙ found)

      -- what is created, with the run f
      made : Option ℕ → State
      made f = with_machine (with_run s f (pages_for r.size)) (add_region (with_run s f (pages_for r.size)).machine p (placed_at r start f))

      go : (b : Bool) → run_needed eager r ≡ b → (x : Option ℕ) → lowest_run m (pages_for r.size) ≡ x → Sound (made (cond b x None)) → Stays s (made (cond b x None)) q c
      go false e x w y = plain (placed_at r start None) y
      go true e (Some f) w y = with_run_stays f (pages_for r.size) (lowest_run_free nothing m o (pages_for r.size) f w) (placed_at r start (Some f)) y
      go true e None w y = absurd (never e w)

create_same : (s : State) → Sound s → (p : ℕ) (place : Place) (eager : Bool) (r : Region) (q c : ℕ) → PrivateAt s q c → Sound (calls.create s p place eager r).state → Stays s (calls.create s p place eager r).state q c
unfolding calls.create create_refusals
create_same s sound p place eager r q c private =
    guarded_same s _ (create_refusals s.machine p place eager r) _ (λ x. Sound x → Stays s x q c) (λ z. stay_same s q c private)
    (λ k z. let frames = k.1.1.1.1.1.1.0 in let slot = k.1.1.1.1.1.1.1.0 in create_core s sound p place eager r (open_by_test s.machine p k.0) slot q c private frames z)

pub create_private_stays : (p : ℕ) (place : Place) (whole : Bool) (size flags : ℕ) (copy thread : Bool) → CallStays (Call.create_private p place whole size flags copy thread)
unfolding step call calls.create_private
create_private_stays p place whole size flags copy thread s sound q c private free = create_same s sound p place whole (wanted_private size flags copy thread) q c private (create_private_kept s sound p place whole size flags copy thread)

pub create_file_stays : (p : ℕ) (place : Place) (size flags : ℕ) (copy thread : Bool) (file offset len : ℕ) → CallStays (Call.create_file p place size flags copy thread file offset len)
unfolding step call calls.create_file
create_file_stays p place size flags copy thread file offset len s sound q c private free = create_same s sound p place false (wanted_file size flags copy thread file offset len) q c private (create_file_kept s sound p place size flags copy thread file offset len)

pub create_shared_stays : (p : ℕ) (place : Place) (size : ℕ) → CallStays (Call.create_shared p place size)
unfolding step call calls.create_shared
create_shared_stays p place size s sound q c private free = create_same s sound p place false (wanted_shared size) q c private (create_shared_kept s sound p place size)
