-- Demand 3 whole: of every sound state, so of every state that calls reach from an empty machine.
use Rattle.std.specs.Prelude.{◌≡◌, ◌≢◌, true, ℕ, ◌<◌, get_or, Some}
use Rattle.std.proofs.Common.{ap, sym, subst, ◌∙◌, arith}
use Rattle.laws.specs.ResultLaws.{some_same}
use Rattle.model.specs.declared.Mapping.{Mapping}
use Rattle.model.specs.Machine.{Machine, State, region_at, mapped_of, no_mapping}
use Rattle.model.specs.Paging.{page_start, is_writable}
use Rattle.model.specs.Backing.{backing}
use Rattle.model.specs.Protect.{holders_by}
use Rattle.model.specs.Run.{run}
use Rattle.model.specs.Sound.{Sound, Homed, Flagged, home_of}
use Rattle.model.specs.EmptyLaws.{start_sound}
use Rattle.laws.specs.In.{In}
use Rattle.laws.specs.InLaws.{in_at, in_row}
use Rattle.keeping.specs.Owing.{Owing, nothing}
use Rattle.keeping.specs.BacksLaws.{source_of}
use Rattle.keeping.specs.HomesLaws.{home_listed}
use Rattle.keeping.specs.OwingOfSound.{sound_owing}
use Rattle.keeping.specs.CallsKept.{run_kept}
use Rattle.isolation.specs.Statements.{Alone, MappedRight, Demand3, OneSideWritable, Guarantee, Demand3Whole}
use Rattle.isolation.specs.BackingsApart.{backings_apart, mapped_low}
use Rattle.isolation.specs.LoneHolder.{lone_alone}
use Rattle.isolation.specs.LoadShows.{stores_stay_home}
use Rattle.isolation.specs.EagerClone.{eager_clone_owns, eager_fork_owns}
use Rattle.isolation.specs.RunStays.{view_stays, view_stays_long, clone_keeps_bytes, clone_loads, fork_keeps_bytes, fork_loads_stay, fork_part_keeps_bytes}
use Rattle.model.proofs.FileLaws.{run_keeps_bytes}
use Rattle.isolation.specs.BackedReads.{backed_reads}

-- ---- the books

module _ (s : State) (sound : Sound s) where
  abbrev m : Machine
  m = s.machine

  o : Owing nothing m
  o = sound_owing s sound

  mapped_right : (p : ℕ) (x : Mapping) → In x (mapped_of m p) → MappedRight m p x
  mapped_right p x i = record { slot = homed.slot; home = homed.home; frame = homed.frame; lone = lone }
    where
      low : p < 8
      low = mapped_low m o p x i

      -- R4 and R5 speak of rows
      homed : Homed m p x
      homed = let r = in_row no_mapping x (mapped_of m p) i in let z = o.sizes.processes in let l = low in subst (λ (y : Mapping). Homed m p y) r.is (sound.r4 p (omega arith) r.row r.inside)

      flagged : Flagged (region_at m p homed.slot) x.flags.0 (holders_by (backing m p homed.slot x.page.0))
      flagged =
          let r = in_row no_mapping x (mapped_of m p) i in
          let z = o.sizes.processes in
          let l = low in
          subst (λ (y : Mapping). home_of m p y ≡ Some homed.slot → Flagged (region_at m p homed.slot) y.flags.0 (holders_by (backing m p homed.slot y.page.0))) r.is
          (sound.r5 p (omega arith) r.row r.inside homed.slot) homed.home

      lone : (region_at m p homed.slot).kind ≢ 3 → is_writable x.flags.0 ≡ true → (holders_by (backing m p homed.slot x.page.0) ≡ 1) × Alone m p homed.slot x.page.0 x.frame.0
      lone private writable =
          let one = flagged.lone private writable in
          let home = home_listed m p (page_start x.page.0) homed.slot homed.home in
          let b = source_of m p homed.slot x.page.0 x.frame.0 homed.frame in
          (one, lone_alone m o p homed.slot x.page.0 b.base x.frame.0 (o.listed p homed.slot low home.0).0 home.1 b.backs (sym b.holders ∙ one))

  pub sound_books : Demand3 m
  sound_books = record { counted = λ f. let e = o.counted f in omega arith; held = o.held; unheld = o.unheld; apart = backings_apart m o; mapped = λ p i h. mapped_right p (get_or (mapped_of m p) i no_mapping) (in_at no_mapping (mapped_of m p) i h) }

  one_side_of : (p q slot : ℕ) (x y : Mapping) → In x (mapped_of m p) → In y (mapped_of m q) → home_of m p x ≡ Some slot → (region_at m p slot).kind ≢ 3 → is_writable x.flags.0 ≡ true → y.frame.0 ≡ x.frame.0 → (q ≡ p) × (y.page.0 ≡ x.page.0)
  one_side_of p q slot x y i j home private writable same =
      let a = mapped_right p x i in
      let b = mapped_right q y j in
      let here : a.slot ≡ slot = some_same (sym a.home ∙ home) in
      let there = home_listed m q (page_start y.page.0) b.slot b.home in
      let small = (o.listed q b.slot (mapped_low m o q y j) there.0).0 in
      let k = (a.lone (λ z. private (ap (λ (t : ℕ). (region_at m p t).kind) (sym here) ∙ z)) writable).1 q b.slot y.page.0 small there.1 (b.frame ∙ ap (λ (f : ℕ). Some f) same) in
      (k.0, k.1.1)

  pub one_side_holds : OneSideWritable m
  one_side_holds p q slot i h home private writable j l = one_side_of p q slot (get_or (mapped_of m p) i no_mapping) (get_or (mapped_of m q) j no_mapping) (in_at no_mapping (mapped_of m p) i h) (in_at no_mapping (mapped_of m q) j l) home private writable

-- ---- the whole

pub guarantee : (s : State) → Sound s → Guarantee s
guarantee s sound = record {
  rules = sound;
  books = sound_books s sound;
  one_side = one_side_holds s sound;
  stores = stores_stay_home s sound;
  stays = view_stays s sound;
  stays_long = view_stays_long s sound;
  files = λ l. run_keeps_bytes l s;
  clone = clone_keeps_bytes s sound;
  loads = clone_loads s sound;
  fork = fork_keeps_bytes s sound;
  fork_loads = fork_loads_stay s sound;
  fork_part = fork_part_keeps_bytes s sound;
  reads = backed_reads s sound;
  eager = eager_clone_owns s sound;
  eager_fork = eager_fork_owns s sound;
}

-- RULES D3, whole: from an empty machine, after any sequence of calls, refused ones included
pub demand3 : Demand3Whole
demand3 lent files done l = let started = start_sound lent files done in guarantee (run l _) (run_kept l _ started)
