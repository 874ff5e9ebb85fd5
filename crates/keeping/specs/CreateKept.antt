-- Creation keeps a machine sound: a run claimed if it is needed, and the region added where there is room.
use Rattle.std.specs.Prelude.{◌≡◌, ◌⊎◌, ◌≢◌, Bool, ◌&&◌, ◌||◌, not, cond, eqb, ltb, leb, Option, Some, None}
use Rattle.std.proofs.Math.Path.{refl, ap, sym, subst}
use Rattle.std.proofs.Common.{◌∙◌, true≢false, arith, eq-eqb, ne_eqb, ltb-false, leb-false}
use Rattle.std.proofs.Math.Bool.{true, false}
use Rattle.std.proofs.lemmas.Bool.{false≢true, eqb-false, not-false}
use Prim.Native.Nat.{ℕ, ◌+◌, ◌≤◌, ◌<◌}
use Rattle.std.proofs.Math.Seq.{get_or-set_same}
use Rattle.laws.specs.ResultLaws.{none_not_some}
use Rattle.address.specs.Flags.{good_flags}
use Rattle.model.specs.declared.Backing.{Backing}
use Rattle.model.specs.declared.Region.{Region}
use Rattle.model.specs.declared.Place.{Place}
use Rattle.model.specs.Machine.{Machine, State, with_machine, with_frames, with_order, process_at, region_at, no_backing, user_end}
use Rattle.model.specs.Lookup.{is_shared, is_found, row_found, free_slot, pages_for, segment_end}
use Rattle.model.specs.Backing.{backing_at, claim, with_backings, lowest_run, zero_frames}
use Rattle.model.specs.Create.{one, wanted_private, wanted_file, wanted_shared, round_up, bad_place, bad_size, spot, run_needed, create_refusals, placed_at, add_region, with_run, core_create}
use Rattle.model.specs.Calls as calls
use Rattle.model.specs.Run.{Call, call, step}
use Rattle.model.specs.Sound.{Sound, Used, Hold}
use Rattle.laws.specs.BoolLaws.{or_none}
use Rattle.keeping.specs.Owing.{Owing, Holds, nothing}
use Rattle.keeping.specs.OwingLaws.{open_low}
use Rattle.keeping.specs.OwingOfSound.{sound_owing, sound_lent_is}
use Rattle.keeping.specs.SoundOfOwing.{owing_sound}
use Rattle.keeping.specs.BackingsKept.{FreeRun, held_used, claim_kept}
use Rattle.keeping.specs.SlotsKept.{owes_range, owes_nothing}
use Rattle.keeping.specs.FreeLaws.{lowest_run_free}
use Rattle.keeping.specs.FrameLengthLaws.{zero_length, lent_frames}
use Rattle.keeping.specs.GuardedKept.{Passed, guarded_kept}
use Rattle.keeping.specs.ArgumentLaws.{open_by_test}
use Rattle.model.specs.FoundRowLaws.{found_row}
use Rattle.keeping.specs.CoreKept.{lent_as}
use Rattle.keeping.specs.AddedKept.{Added, added_kept}
use Rattle.keeping.specs.SpotLaws.{Room, spot_room, clear_apart}

-- a region as a caller can ask for it
record Asked (eager : Bool) (r : Region) : Type 0 where
  kind : r.kind ≤ 3
  used : Used r
  marks : (r.fork ≤ 1) × (r.per_thread ≤ 1)
  shared : r.kind ≡ 3 → (r.flags.0 ≡ 0) × ((r.fork ≡ 0) × (r.per_thread ≡ 0))
  lazy : r.kind ≡ 2 → eager ≡ false
  plain : r.kind ≢ 2 → (r.file ≡ 0) × ((r.offset ≡ 0) × (r.length ≡ 0))

-- what the tests of creation leave
record Granted (m : Machine) (p : ℕ) (place : Place) (eager : Bool) (r : Region) : Type 0 where
  opened : (process_at m p).opened ≡ 1
  place_good : bad_place place r.size ≡ false
  some : 1 ≤ r.size
  offset : r.offset ≤ user_end
  small : r.size ≤ user_end
  long : r.length ≤ r.size
  flags : r.kind ≢ 3 → good_flags r.flags.0 ≡ true
  file : r.kind ≡ 2 → r.file < m.file_count
  spot_found : spot m p place (round_up r.size) ≡ Some (row_found (spot m p place (round_up r.size)))
  run : run_needed eager r ≡ true → lowest_run m (pages_for r.size) ≡ Some (row_found (lowest_run m (pages_for r.size)))
  slot : not (is_found (free_slot m p)) ≡ false

granted : (m : Machine) (p : ℕ) (place : Place) (eager : Bool) (r : Region) → Passed (create_refusals m p place eager r) → Granted m p place eager r
unfolding create_refusals
granted m p place eager r k =
    let range = or_none (bad_place place r.size) (bad_size r) k.1.1.0 in
    let a = or_none (eqb r.size 0 || ltb user_end r.size || ltb user_end r.offset) (ltb r.size r.length) range.1 in
    let b = or_none (eqb r.size 0 || ltb user_end r.size) (ltb user_end r.offset) a.0 in
    let c = or_none (eqb r.size 0) (ltb user_end r.size) b.0 in
    let z = eqb-false r.size 0 c.0 in
    record {
      opened = open_by_test m p k.0;
      place_good = range.0;
      some = omega (arith, z);
      offset = ltb-false user_end r.offset b.1;
      small = ltb-false user_end r.size c.1;
      long = ltb-false r.size r.length a.1;
      flags = λ u. not-false _ (both (eqb r.kind 3) (not (good_flags r.flags.0)) (ne_eqb r.kind 3 u) k.1.1.1.0);
      file = λ u. leb-false m.file_count r.file (other (eqb r.kind 2) (leb m.file_count r.file) (eq-eqb r.kind 2 u) k.1.1.1.1.0);
      spot_found = found_row _ k.1.1.1.1.1.0;
      run = λ u. found_row _ (other (run_needed eager r) _ u k.1.1.1.1.1.1.0);
      slot = k.1.1.1.1.1.1.1.0;
    }
  where
    both : (a b : Bool) → a ≡ false → (not a && b) ≡ false → b ≡ false
    both true b e f = absurd (true≢false e)
    both false b e f = f

    other : (a b : Bool) → a ≡ true → (a && b) ≡ false → b ≡ false
    other true b e f = f
    other false b e f = absurd (false≢true e)

module _ (s : State) (sound : Sound s) (p : ℕ) (place : Place) (eager : Bool) (r : Region) (asked : Asked eager r)
    (g : Granted s.machine p place eager r) where
  abbrev m : Machine
  m = s.machine

  abbrev pages : ℕ
  pages = pages_for r.size

  abbrev start : ℕ
  start = row_found (spot m p place (round_up r.size))

  o : Owing nothing m
  o = sound_owing s sound

  room : Room m p start r.size
  room = spot_room nothing m o p g.opened r.size g.some place g.place_good start g.spot_found

  apart : (t : ℕ) → t < 64 → Used (region_at m p t) → (start + round_up r.size ≤ (region_at m p t).start.0) ⊎ (segment_end (region_at m p t) ≤ start)
  apart = clear_apart nothing m o p (open_low m o p g.opened) start r.size g.some room.clear

  -- without a run
  plain_added : run_needed eager r ≡ false → Added m p (placed_at r start None)
  plain_added e = record {
    opened = g.opened;
    slot = g.slot;
    unpinned = refl;
    used = asked.used;
    apart = apart;
    fits = record {
      kind = asked.kind;
      aligned_start = room.page;
      some = g.some;
      user_segment = room.ends;
      pins = omega arith;
      flags = λ u. (g.flags u, asked.marks);
      shared = λ u. absurd (unshared u);
      file = λ u. (g.file u, (let a = g.offset in let b = g.small in omega arith, (g.long, refl)));
      no_file = asked.plain;
      ranged = λ z. absurd (omega arith);
      unranged = λ z. (refl, refl);
    };
    agree = λ z. absurd (omega arith);
  }
    where
      unshared : r.kind ≢ 3
      unshared u = true≢false (sym (eq-eqb r.kind 3 u) ∙ (or_none eager (is_shared r) e).1)

  plain_kept : run_needed eager r ≡ false → Sound (with_machine s (add_region m p (placed_at r start None)))
  unfolding add_region with_order
  plain_kept e =
      owing_sound _ (added_kept nothing m p (placed_at r start None)
      (subst (λ (k : ℕ → ℕ). Owing k m) (λ i x. sym (owes_nothing (placed_at r start None) nothing (λ z. omega arith) x) i) o) (plain_added e))
      (lent_as s _ (record { files = refl; file_count = refl; frame_count = refl }) (sound_lent_is s sound))

  -- with one
  module _ (need : run_needed eager r ≡ true) (f : ℕ) (found : lowest_run m pages ≡ Some f) where
    run : FreeRun m f pages
    run = lowest_run_free nothing m o pages f found

    abbrev claimed : Machine
    claimed = claim m f pages

    unfile : r.kind ≢ 2
    unfile u = true≢false (sym (subst (λ (b : Bool). (b || is_shared r) ≡ true) (asked.lazy u) need) ∙ ne_eqb r.kind 3 (λ z. omega arith))

    row : backing_at claimed f ≡ record { len = pages; holders = 1 }
    unfolding claim with_backings
    row =
        let a = o.sizes.backings in
        let b = o.sizes.frame_count in
        let c = run.inside in
        let d = run.some in
        get_or-set_same m.backings f (record { len = pages; holders = 1 }) no_backing (omega arith)

    unheld : (h : Hold) → Holds m h → h.frame ≢ f
    unheld h k e =
        held_used nothing m o f (record { by = h; holds = k; frame = e })
        (let d = run.some in let a = run.free f (omega arith) (omega arith) f (omega arith) in omega arith)

    run_added : Added claimed p (placed_at r start (Some f))
    unfolding claim with_backings free_slot
    run_added = record {
      opened = g.opened;
      slot = g.slot;
      unpinned = refl;
      used = asked.used;
      apart = apart;
      fits = record {
        kind = asked.kind;
        aligned_start = room.page;
        some = g.some;
        user_segment = room.ends;
        pins = omega arith;
        flags = λ u. (g.flags u, asked.marks);
        shared = λ u. let k = asked.shared u in (k.0, (k.1.0, (k.1.1, refl)));
        file = λ u. absurd (unfile u);
        no_file = asked.plain;
        ranged = λ z. ap (λ (b : Backing). b.len) row;
        unranged = λ z. absurd (z refl);
      };
      agree = λ z h k e. absurd (unheld h k e);
    }

    run_kept : Sound (with_machine (with_frames s (zero_frames f pages s.frames)) (add_region claimed p (placed_at r start (Some f))))
    unfolding add_region with_order claim with_backings
    run_kept =
        let lent = sound_lent_is s sound in
        let owed = subst (λ (k : ℕ → ℕ). Owing k claimed) (sym (owes_range (placed_at r start (Some f)) nothing asked.used refl)) (claim_kept nothing m o f pages run) in
        let zeroed = lent_frames s _ (zero_length f pages m.frame_count s.frames lent.frames run.inside) lent in
        owing_sound _ (added_kept nothing claimed p (placed_at r start (Some f)) owed run_added)
        (lent_as (with_frames s (zero_frames f pages s.frames)) _ (record { files = refl; file_count = refl; frame_count = refl }) zeroed)

  create_core : Sound (core_create s p place eager r)
  unfolding core_create with_run
  create_core = go (run_needed eager r) refl (lowest_run m pages) refl
    where
      go : (b : Bool) → run_needed eager r ≡ b → (x : Option ℕ) → lowest_run m pages ≡ x
          → Sound (with_machine (with_run s (cond b x None) pages)
          (add_region (with_run s (cond b x None) pages).machine p (placed_at r start (cond b x None))))
      go false e x q = plain_kept e
      go true e (Some f) q = run_kept e f q
      go true e None q = absurd (none_not_some (sym q ∙ g.run e))

asked_private : (size flags : ℕ) (copy thread eager : Bool) → Asked eager (wanted_private size flags copy thread)
asked_private size flags copy thread eager = record {
  kind = omega arith;
  used = λ z. omega arith;
  marks = (small copy, small thread);
  shared = λ z. absurd (omega arith);
  lazy = λ z. absurd (omega arith);
  plain = λ z. (refl, (refl, refl));
}
  where
    small : (b : Bool) → one b ≤ 1
    small true = omega arith
    small false = omega arith

asked_file : (size flags : ℕ) (copy thread : Bool) (file offset len : ℕ) → Asked false (wanted_file size flags copy thread file offset len)
asked_file size flags copy thread file offset len = record {
  kind = omega arith;
  used = λ z. omega arith;
  marks = (small copy, small thread);
  shared = λ z. absurd (omega arith);
  lazy = λ z. refl;
  plain = λ z. absurd (z refl);
}
  where
    small : (b : Bool) → one b ≤ 1
    small true = omega arith
    small false = omega arith

asked_shared : (size : ℕ) → Asked false (wanted_shared size)
asked_shared size = record {
  kind = omega arith;
  used = λ z. omega arith;
  marks = (omega arith, omega arith);
  shared = λ z. (refl, (refl, refl));
  lazy = λ z. refl;
  plain = λ z. (refl, (refl, refl));
}

create_kept : (s : State) → Sound s → (p : ℕ) (place : Place) (eager : Bool) (r : Region) → Asked eager r → Sound (calls.create s p place eager r).state
unfolding calls.create
create_kept s sound p place eager r asked = guarded_kept s _ _ _ sound (λ k. create_core s sound p place eager r asked (granted s.machine p place eager r k))

module _ (s : State) (sound : Sound s) (p : ℕ) (place : Place) where
  pub create_private_kept : (whole : Bool) (size flags : ℕ) (copy thread : Bool) → Sound (step (Call.create_private p place whole size flags copy thread) s)
  unfolding step call calls.create_private
  create_private_kept whole size flags copy thread = create_kept s sound p place whole _ (asked_private size flags copy thread whole)

  pub create_file_kept : (size flags : ℕ) (copy thread : Bool) (file offset len : ℕ)
      → Sound (step (Call.create_file p place size flags copy thread file offset len) s)
  unfolding step call calls.create_file
  create_file_kept size flags copy thread file offset len = create_kept s sound p place false _ (asked_file size flags copy thread file offset len)

  pub create_shared_kept : (size : ℕ) → Sound (step (Call.create_shared p place size) s)
  unfolding step call calls.create_shared
  create_shared_kept size = create_kept s sound p place false _ (asked_shared size)
