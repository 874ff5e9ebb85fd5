-- A page fault keeps a machine sound, whichever way it goes.
use Rattle.std.specs.Prelude.{◌≡◌, ◌⊎◌, ◌≢◌, Bool, ◌&&◌, not, cond, List, [], ◌∷◌, ℕ, ◌+◌, ◌*◌, ◌/◌, ◌%◌, ◌<◌, eqb, ltb, leb, Option, Some, None, Result, Ok, Err, ⊤}
use Rattle.std.proofs.Math.Path.{refl}
use Rattle.std.proofs.Common.{ap, sym, subst, ◌∙◌, inl, inr, true≢false}
use Rattle.std.proofs.Math.Bool.{true, false}
use native.Mathlib.Omega.{arith}
use Rattle.std.proofs.Math.ListN.{length}
use borrow.Author.Tests.{eqb-true, eqb-false, leb-true, leb-false, ltb-true, le-leb, lt-ltb}
use Rattle.answers.specs.declared.Refusal.{Refusal}
use Rattle.model.specs.declared.Region.{Region}
use Rattle.model.specs.declared.Mapping.{Mapping}
use Rattle.model.specs.declared.Backed.{Backed}
use Rattle.model.specs.declared.Backed.TheVariants.{ByEntry, ByRange, Unbacked}
use Rattle.model.specs.declared.Way.{Way}
use Rattle.model.specs.declared.Way.TheVariants.{Refuse, Already, Restore, Map, Copy, Fill}
use Rattle.model.specs.Machine.{Machine, State, with_frames, with_mapped, process_at, region_at, row_of, order_of, mapped_of}
use Rattle.model.specs.Answers.{fine, first_of, unless}
use Rattle.model.specs.Lookup.{contains}
use Rattle.model.specs.Paging.{page_start, mapping, map_page, unmap_page, remap_where, translate}
use Rattle.model.specs.Backing.{backing_at, backing, put_frame, claim, add_entry, with_backings}
use Rattle.model.specs.Fault.{fault_way, way_refusals, go_way, own_frame, handle_fault, re_entry, no_frame, no_room, no_entry_left, is_mapped, by_entry}
use Rattle.model.specs.Protect.{holders_by}
use Rattle.model.specs.Refusals.{slot_at, region_refusals}
use Rattle.model.specs.Calls as calls
use Rattle.model.specs.Run.{Call, call, step}
use Rattle.model.specs.Sound.{Sound, Flagged, frame_by}
use Rattle.laws.specs.BoolLaws.{both_true}
use Rattle.model.specs.MachineLaws.{mapped_length}
use Rattle.model.specs.MappedBelowLaws.{length_map, length_unmap, length_unmapped}
use Rattle.laws.specs.In.{In}
use Rattle.keeping.specs.Owing.{Owing, Placed, nothing, Backs}
use Rattle.keeping.specs.OwingLaws.{open_low, home_one, listed_open}
use Rattle.keeping.specs.BacksLaws.{source_of, backing_of}
use Rattle.keeping.specs.OwingOfSound.{sound_owing, sound_lent_is}
use Rattle.keeping.specs.SoundOfOwing.{owing_sound}
use Rattle.keeping.specs.AlikeLaws.{placed_with, alike_same}
use Rattle.keeping.specs.MappedKept.{mapped_kept}
use Rattle.keeping.specs.MapOrderLaws.{in_mapped, rising_map, remapped}
use Rattle.keeping.specs.PagesKept.{few_pages, base_used, remap_kept}
use Rattle.model.specs.RuleUseLaws.{backing_within}
use Rattle.keeping.specs.FreeLaws.{next_run}
use Rattle.keeping.specs.FrameLengthLaws.{bytes_length, put_length, fill_length, lent_frames}
use Rattle.keeping.specs.GuardedKept.{Passed, passed, guarded_kept}
use Rattle.keeping.specs.ArgumentLaws.{Named, named_at}
use Rattle.keeping.specs.CoreKept.{Lends, lent_as, machine_kept}
use Rattle.keeping.specs.LetGoLaws.{lends_let_go}
use Rattle.keeping.specs.FaultWayLaws.{Right, way_right}
use Rattle.keeping.specs.OwnFrameKept.{own_kept}

not_mapped : (pg : ℕ) (l : List Mapping) → translate l pg ≡ None → (x : Mapping) → In x l → x.page.0 ≢ pg
unfolding translate
not_mapped pg [] e x k = absurd k
not_mapped pg (y ∷ l) e x k = go (eqb y.page.0 pg) refl e k (not_mapped pg l)
  where
    go : (b : Bool) → eqb y.page.0 pg ≡ b → cond b (Some y) (translate l pg) ≡ None → In x (y ∷ l)
        → (translate l pg ≡ None → (x : Mapping) → In x l → x.page.0 ≢ pg) → x.page.0 ≢ pg
    go true p q i more = let z : ◌≡◌ {A = ℕ} 0 1 = cc in absurd (omega arith)
    go false p q (inl i) more = λ z. eqb-false y.page.0 pg p (ap (λ (w : Mapping). w.page.0) (sym i) ∙ z)
    go false p q (inr i) more = more q x i

-- ---- the ways on the machine alone

module _ (d : ℕ → ℕ) (m : Machine) (o : Owing d m) (p t pg : ℕ) (listed : In t (order_of m p))
    (contained : contains (region_at m p t) (page_start pg) ≡ true) where
  abbrev r : Region
  r = region_at m p t

  opened : (process_at m p).opened ≡ 1
  opened = listed_open d m o p t listed

  low : p < 8
  low = open_low m o p opened

  restore_kept : r.kind ≢ 3 → holders_by (backing m p t pg) ≡ 1
      → Owing d (with_mapped m p (remap_where (λ x. eqb x.page.0 pg) (λ x. r.flags.0) (mapped_of m p)))
  restore_kept private one = remap_kept d m o p opened (λ x. eqb x.page.0 pg) (λ x. r.flags.0) placed
    where
      placed : (x : Mapping) → Placed m p x → Placed m p (remapped (λ x. eqb x.page.0 pg) (λ x. r.flags.0) x)
      placed x k = go (eqb x.page.0 pg) refl
        where
          go : (b : Bool) → eqb x.page.0 pg ≡ b → Placed m p (cond b (mapping x.page.0 x.frame.0 r.flags.0) x)
          go false e = k
          go true e =
              let page = eqb-true x.page.0 pg e in
              let slot = home_one m o p low (page_start x.page.0) k.slot t k.listed listed k.inside (subst (λ (j : ℕ). contains r (page_start j) ≡ true) (sym page) contained) in
              let h = (backing_of m p k.slot x.page.0 o.once_a_page k.base x.frame.0 k.backed).1 in
              let of_slot = subst (λ (j : ℕ). holders_by (backing m p j x.page.0) ≡ (backing_at m k.base).holders) slot h in
              let lone = subst (λ (j : ℕ). holders_by (backing m p t j) ≡ (backing_at m k.base).holders) page of_slot in
              placed_with m m r.flags.0 p x k k.listed (λ i. refl) (alike_same _) refl
              (subst (λ (j : ℕ). Flagged (region_at m p j) r.flags.0 (backing_at m k.base).holders) (sym slot)
              (record { private = λ z. inl refl; lone = λ z w. sym lone ∙ one; shared = λ z. absurd (private z) }))

  map_kept : (f fl : ℕ) → translate (mapped_of m p) pg ≡ None → frame_by (backing m p t pg) ≡ Some f → Flagged r fl (holders_by (backing m p t pg))
      → no_room m p ≡ false → Owing d (with_mapped m p (map_page (mapped_of m p) (mapping pg f fl)))
  map_kept f fl none frame flagged room =
      let long = length_map (mapped_of m p) (mapping pg f fl) in
      let most = mapped_length m p in
      let less = leb-false 128 (process_at m p).mapped room in
      mapped_kept d m o p opened _ (rising_map (mapped_of m p) (mapping pg f fl) (o.paged p low).rising (λ x k. not_mapped pg (mapped_of m p) none x k))
      (omega arith) (λ y i. go y (in_mapped y (mapping pg f fl) (mapped_of m p) i))
    where
      go : (y : Mapping) → (y ≡ mapping pg f fl) ⊎ In y (mapped_of m p) → Placed m p y
      go y (inl e) =
          let k = source_of m p t pg f frame in
          subst (Placed m p) (sym e) (record {
            slot = t;
            listed = listed;
            inside = contained;
            base = k.base;
            backed = k.backs;
            flagged = subst (λ (h : ℕ). Flagged r fl h) k.holders flagged;
          })
      go y (inr i) = o.mapped p low y i

  -- the frame of a page is one of the machine's
  pub frame_low : (f : ℕ) → frame_by (backing m p t pg) ≡ Some f → f < m.frame_count
  frame_low f e = let k = source_of m p t pg f e in go k.base k.backs
    where
      go : (base : ℕ) → Backs m (row_of p t) pg base f → f < m.frame_count
      go base (inl b) =
          let used = base_used d m o (row_of p t) pg base f (inl b) in
          let w = backing_within m base used o.pool in
          let q = b.frame in
          omega (arith, used)
      go base (inr b) =
          let used = base_used d m o (row_of p t) pg base f (inr b) in
          let w = backing_within m base used o.pool in
          let q = b.frame in
          let h = b.within in
          omega arith

lends_re_entry : (m : Machine) (new row pg : ℕ) (b : Backed) → Lends m (re_entry (claim m new 1) row pg b new)
unfolding re_entry add_entry claim with_backings
lends_re_entry m new row pg (ByEntry i f n) =
    let k = lends_let_go (claim m new 1) f.0 in
    record { files = k.files; file_count = k.file_count; frame_count = k.frame_count }
lends_re_entry m new row pg (ByRange f n) = record { files = refl; file_count = refl; frame_count = refl }
lends_re_entry m new row pg Unbacked = record { files = refl; file_count = refl; frame_count = refl }

-- ---- the ways on the state

module _ (s : State) (sound : Sound s) (p t pg : ℕ) (listed : In t (order_of s.machine p))
    (contained : contains (region_at s.machine p t) (page_start pg) ≡ true) where
  abbrev m : Machine
  m = s.machine

  o : Owing nothing m
  o = sound_owing s sound

  -- a frame of its own with any page of bytes
  pub own_frame_kept : (content : List ℕ) → (region_at m p t).kind ≢ 3 → length content ≡ 4096 → no_frame m ≡ false → length (unmap_page (mapped_of m p) pg) < 128
      → (not (by_entry (backing m p t pg)) && no_entry_left m) ≡ false → Sound (own_frame s p t pg content)
  unfolding own_frame with_mapped
  own_frame_kept content private long frame room left =
      let run = next_run nothing m o frame in
      let inside = run.inside in
      let lent = sound_lent_is s sound in
      let k = lends_re_entry m m.pool.next.0 (row_of p t) pg (backing m p t pg) in
      let owing = own_kept nothing m o p t pg listed private contained m.pool.next.0 run room (backing m p t pg) refl left in
      let written = lent_frames s _ (put_length s.frames m.pool.next.0 m.frame_count content lent.frames (omega arith) long) lent in
      owing_sound (own_frame s p t pg content) owing
      (lent_as (with_frames s (put_frame s.frames m.pool.next.0 content)) _
      (record { files = k.files; file_count = k.file_count; frame_count = k.frame_count }) written)

  went : (way : Way) → Right (region_at m p t) (translate (mapped_of m p) pg) (backing m p t pg) way → Passed (way_refusals m p t pg way)
      → Sound (go_way s p t pg way)
  unfolding way_refusals go_way with_mapped
  went (Refuse x) k e = absurd (true≢false e.0)
  went Already k e = sound
  went Restore k e =
      machine_kept s _ sound (record { files = refl; file_count = refl; frame_count = refl })
      (λ z. restore_kept nothing m o p t pg listed contained k.0 k.1)
  went (Map f fl) k e =
      machine_kept s _ sound (record { files = refl; file_count = refl; frame_count = refl })
      (λ z. map_kept nothing m o p t pg listed contained f.0 fl.0 k.0 k.1.0 k.1.1 e.0)
  went (Copy f) k e =
      own_frame_kept _ k.0 (bytes_length s.frames f.0 m.frame_count (sound_lent_is s sound).frames
      (frame_low nothing m o p t pg listed contained f.0 k.1)) e.0 (room (translate (mapped_of m p) pg) refl e.1.0) e.1.1.0
    where
      room : (x : Option Mapping) → translate (mapped_of m p) pg ≡ x → (not (is_mapped x) && no_room m p) ≡ false → length (unmap_page (mapped_of m p) pg) < 128
      room (Some x) q z =
          let a = length_unmapped pg (mapped_of m p) x q in
          let b = few_pages nothing m o p (open_low m o p (listed_open nothing m o p t listed)) in
          omega arith
      room None q z = let a = length_unmap pg (mapped_of m p) in let b = mapped_length m p in let c = leb-false 128 (process_at m p).mapped z in omega arith
  went Fill k e =
      own_frame_kept _ k (fill_length s (region_at m p t) pg) e.0
      (let a = length_unmap pg (mapped_of m p) in let b = mapped_length m p in let c = leb-false 128 (process_at m p).mapped e.1.1.0 in omega arith)
      (left (by_entry (backing m p t pg)) e.1.1.1.0)
    where
      left : (b : Bool) → no_entry_left m ≡ false → (not b && no_entry_left m) ≡ false
      left true z = refl
      left false z = z

  -- the way that is picked is gone, or refused
  pub fault_core : (w : Bool) → Sound (handle_fault s p t pg w).state
  unfolding handle_fault
  fault_core w = go (first_of (way_refusals m p t pg (fault_way m p t pg w))) refl
    where
      go : (d : Result ⊤ Refusal) → first_of (way_refusals m p t pg (fault_way m p t pg w)) ≡ d → Sound (unless d s (fine (go_way s p t pg (fault_way m p t pg w)))).state
      go (Ok tt) e = went (fault_way m p t pg w) (way_right m p t pg w) (passed _ e)
      go (Err x) e = sound

-- the page of an address in a region starts in it
pub page_inside : {d : ℕ → ℕ} (m : Machine) → Owing d m → (p : ℕ) → p < 8 → (t a : ℕ) → In t (order_of m p) → contains (region_at m p t) a ≡ true
    → contains (region_at m p t) (page_start (a / 4096)) ≡ true
page_inside m o p h t a i e =
    let k = (o.regions (row_of p t)).used (o.listed p t h i).1 in
    let b = both_true (leb (region_at m p t).start.0 a) (ltb a ((region_at m p t).start.0 + (region_at m p t).size)) e in
    let l = leb-true (region_at m p t).start.0 a b.0 in
    let u = ltb-true a ((region_at m p t).start.0 + (region_at m p t).size) b.1 in
    let z = eqb-true ((region_at m p t).start.0 % 4096) 0 k.aligned_start in
    rw (
      le-leb (region_at m p t).start.0 (a / 4096 * 4096) (omega arith),
      lt-ltb (a / 4096 * 4096) ((region_at m p t).start.0 + (region_at m p t).size) (omega arith),
    ) refl

pub fault_kept : (s : State) → Sound s → (p a : ℕ) (w : Bool) → Sound (step (Call.fault p a w) s)
unfolding step call calls.fault region_refusals
fault_kept s sound p a w = guarded_kept s _ _ _ sound (λ k. core (named_at s.machine p a k.0 k.1.1.0))
  where
    core : Named s.machine p (slot_at s p a) a → Sound (handle_fault s p (slot_at s p a) (a / 4096) w).state
    core n =
        let o = sound_owing s sound in
        fault_core s sound p (slot_at s p a) (a / 4096) n.listed
        (page_inside s.machine o p (open_low s.machine o p n.opened) (slot_at s p a) a n.listed n.inside) w
