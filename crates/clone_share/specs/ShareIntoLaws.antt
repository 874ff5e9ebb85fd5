-- From what the parts of a clone that shares leave to the model's share_into.
use Rattle.std.specs.Prelude.{◌≡◌, ◌≢◌, Bool, List, ℕ, ◌+◌, ◌*◌, ◌^◌, ◌≤◌, ◌<◌, get_or, set, Option, Some}
use Rattle.std.proofs.Math.Path.{refl, ap, subst}
use Rattle.std.proofs.Common.{sym, ◌∙◌, get_or-set_same, get_or-set_other, eq-eqb, ne_eqb, eqb-true}
use Rattle.std.proofs.Math.Bool.{true, false, cond}
use native.Mathlib.Omega.{arith}
use Rattle.std.proofs.Math.Decide.{ℕ_discrete}
use Rattle.std.proofs.Math.ListN.{length}
use Rattle.std.proofs.Math.Dec.{eqb}
use Rattle.model.specs.declared.Region.{Region}
use Rattle.model.specs.declared.Backing.{Backing}
use Rattle.laws.specs.Lists.{each, count}
use Rattle.laws.specs.CountLaws.{count_most}
use Rattle.model.specs.Layout.{machine}
use Rattle.model.specs.Machine.{Machine, State, process_at, region_at, row_of, order_of, no_entry, no_backing, no_region}
use Rattle.model.specs.Lookup.{is_ranged, free_slot, free_entries, row_found}
use Rattle.model.specs.Backing.{backing_at, hold, with_backings}
use Rattle.model.specs.Create.{add_region}
use Rattle.model.specs.Clone.{single_pages, shared_row, demote, share_entry, share_range}
use Rattle.model.specs.Sound.{Sound, R2, Ordered, Entered, Limits, Hold, holds, holders_of}
use Rattle.model.specs.RecordLaws.{sound_tells}
use Rattle.rows.specs.LentMemory.{state_of}
use Rattle.lookup.specs.NextEntry.{OnceAPage}
use Rattle.lookup.specs.LookupsLaws.{processes_length}
use Rattle.paging.specs.ProcessRows.{with_rows}
use Rattle.paging.specs.MapperLaws.{well_paged}
use Rattle.backing.specs.BackingSteps.{held}
use Rattle.backing.specs.Ready.{Ready}
use Rattle.backing.specs.HoldersLaws.{holds_most}
use Rattle.backing.specs.BackingLaws.{sound_ready, hold_is, hold_ready, used_low}
use Rattle.regions.specs.Added.{with_added}
use Rattle.regions.specs.AddedLaws.{places_inside}
use Rattle.regions.specs.RoomLaws.{free_below, free_kind, room_left, adds_region}
use Rattle.remap.specs.Remapped.{remapped}
use Rattle.remap.specs.Demoted.{demoted_in}
use Rattle.remap.specs.DemotedLaws.{demote_is}
use Rattle.keeping.specs.Owing.{Owing, nothing}
use Rattle.keeping.specs.OwingOfSound.{sound_owing}
use Rattle.clone_share.specs.EntryPutLaws.{page_next}
use Rattle.clone_share.specs.ShareNext.{Shareable}
use Rattle.clone_share.specs.ShareInto.{held_range, shared_into, Cloneable}

pub range_held : (m : Machine) (r : Region) → r.ranged ≡ 1 → (n : Machine) → n ≡ held m r.range.0 → n ≡ held_range m r
unfolding held_range
range_held m r e n put = put ∙ ap (λ (b : Bool). cond b (held m r.range.0) m) (sym (eq-eqb r.ranged 1 e))

pub range_none : (m : Machine) (r : Region) → (r.ranged ≡ 1 → ⊥) → m ≡ held_range m r
unfolding held_range
range_none m r e = ap (λ (b : Bool). cond b (held m r.range.0) m) (sym (ne_eqb r.ranged 1 e))

added_entries : (n : Machine) (q f : ℕ) (x : Region) → (with_added n q f x).entries ≡ n.entries
unfolding with_added
added_entries n q f x = refl

-- a machine between: entries as they were, the pool right, backings as long, and one holder more at most
record Between (m n : Machine) : Type 0 where
  entries : n.entries ≡ m.entries
  ready : Ready n
  len : (h : ℕ) → (backing_at n h).len ≡ (backing_at m h).len
  holders : (h : ℕ) → (backing_at n h).holders ≤ (backing_at m h).holders + 1

module _ (w : List ℕ) (p s q f : ℕ) (p_low : p < 8) (s_low : s < 64) (q_low : q < 8) (k : Cloneable w p s q f) where
  abbrev m : Machine
  m = machine w

  abbrev st : State
  st = state_of w k.sound.frames k.sound.files

  sound : Sound st
  sound = (sound_tells st).yes k.sound.sound

  owing : Owing nothing m
  owing = sound_owing st sound

  abbrev r : Region
  r = region_at m p s

  limits : Limits m r
  limits = (owing.regions (row_of p s)).used k.used

  range_used : r.ranged ≡ 1 → (backing_at m r.range.0).len ≢ 0
  range_used e z = let long = limits.ranged e in let some = limits.some in omega arith

  m_ready : Ready m
  m_ready = sound_ready sound

  -- the range's frame has a row
  pub range_low : (x : Region) → x ≡ r → x.ranged ≡ 1 → x.range.0 < 256
  range_low x e y =
      let low = used_low m m_ready r.range.0 (range_used (ap (λ (z : Region). z.ranged) (sym e) ∙ y)) in
      let few = m_ready.few in
      let same = ap (λ (z : Region). z.range.0) e in
      omega arith

  f_low : f < 64
  f_low = free_below m q f k.slot

  pub slot_low : f < 64
  slot_low = f_low

  m_few : (h : ℕ) → (backing_at m h).holders ≤ 1024
  unfolding holders_of
  m_few h =
      let a = owing.counted h in
      let b = count_most (λ (x : Hold). eqb x.frame h) (holds m) in
      let c = holds_most m in
      let d = owing.sizes.entries in
      let e = owing.sizes.regions in
      omega arith

  -- ---- the mappings demoted

  abbrev m1 : Machine
  m1 = remapped (demoted_in r) m p

  m1_is : m1 ≡ demote m p s
  m1_is = demote_is m p s (well_paged st p sound p_low)

  m1_between : Between m m1
  unfolding remapped with_rows
  m1_between = record { entries = refl; ready = record { r2 = record { apart = r2.apart; within = r2.within; free = r2.free; next = r2.next }; rows = m_ready.rows; few = m_ready.few }; len = λ h. refl; holders = λ h. omega arith }
    where
      r2 : R2 m
      r2 = m_ready.r2

  m1_slot : free_slot m1 q ≡ free_slot m q
  unfolding remapped with_rows free_slot
  m1_slot = refl

  m1_ordered : Ordered m q (process_at m q) → Ordered m1 q (process_at m1 q)
  unfolding remapped with_rows order_of
  m1_ordered o = record { listed = o.listed; free = o.free; once = o.once; detached = o.detached }

  m1_places : m1.order ≡ m.order
  unfolding remapped with_rows
  m1_places = refl

  -- ---- the range held

  m1_range : is_ranged r ≡ true → ((backing_at m1 r.range.0).len ≢ 0) × ((backing_at m1 r.range.0).holders + 1 < 2 ^ 64)
  m1_range e =
      let few = m_few r.range.0 in
      let more = m1_between.holders r.range.0 in
      (λ z. range_used (eqb-true r.ranged 1 e) (sym (m1_between.len r.range.0) ∙ z), omega arith)

  abbrev ranged : Bool → Machine
  ranged b = cond b (hold m1 r.range.0) m1

  m2_is : held_range m1 r ≡ ranged (is_ranged r)
  unfolding held_range
  m2_is = go (is_ranged r) refl
    where
      go : (b : Bool) → is_ranged r ≡ b → cond b (held m1 r.range.0) m1 ≡ cond b (hold m1 r.range.0) m1
      go true e = let u = m1_range e in hold_is m1 m1_between.ready r.range.0 u.0 u.1
      go false e = refl

  held_row : (g h : ℕ) → backing_at (hold m1 g) h ≡ get_or (set m1.backings g (record { len = (backing_at m1 g).len; holders = (backing_at m1 g).holders + 1 })) h no_backing
  unfolding hold with_backings
  held_row g h = refl

  held_between : (g : ℕ) → (backing_at m1 g).len ≢ 0 → Between m (hold m1 g)
  unfolding hold with_backings remapped with_rows
  held_between g u = record { entries = refl; ready = hold_ready m1 m1_between.ready g u; len = λ h. (both h (ℕ_discrete h g)).0; holders = λ h. (both h (ℕ_discrete h g)).1 }
    where
      there : g < length m1.backings
      there = let low = used_low m1 m1_between.ready g u in let few = m1_between.ready.few in let rows = m1_between.ready.rows in omega arith

      both : (h : ℕ) → Dec (h ≡ g) → ((backing_at (hold m1 g) h).len ≡ (backing_at m h).len) × ((backing_at (hold m1 g) h).holders ≤ (backing_at m h).holders + 1)
      both h (yes z) =
          let same = held_row g h ∙ ap (λ (i : ℕ). get_or (set m1.backings g (record { len = (backing_at m1 g).len; holders = (backing_at m1 g).holders + 1 })) i no_backing) z ∙ get_or-set_same m1.backings g _ no_backing there in
          let count = ap (λ (b : Backing). b.holders) same in
          let was = ap (λ (i : ℕ). (backing_at m i).holders) z in
          (ap (λ (b : Backing). b.len) same ∙ ap (λ (i : ℕ). (backing_at m i).len) (sym z), omega arith)
      both h (no z) =
          let same = held_row g h ∙ get_or-set_other m1.backings g h _ no_backing z in
          let count = ap (λ (b : Backing). b.holders) same in
          (ap (λ (b : Backing). b.len) same, omega arith)

  ranged_between : (b : Bool) → is_ranged r ≡ b → Between m (ranged b)
  ranged_between true e = held_between r.range.0 (m1_range e).0
  ranged_between false e = m1_between

  ranged_slot : (b : Bool) → free_slot (ranged b) q ≡ Some f
  unfolding hold with_backings free_slot
  ranged_slot true = m1_slot ∙ k.slot
  ranged_slot false = m1_slot ∙ k.slot

  m_ordered : Ordered m q (process_at m q)
  m_ordered = sound.r6.ordered q (rw processes_length q_low)

  ranged_ordered : (b : Bool) → Ordered (ranged b) q (process_at (ranged b) q)
  unfolding hold with_backings order_of
  ranged_ordered true = let o = m1_ordered m_ordered in record { listed = o.listed; free = o.free; once = o.once; detached = o.detached }
  ranged_ordered false = m1_ordered m_ordered

  ranged_inside : (b : Bool) → q * 64 + 64 ≤ length (ranged b).order
  unfolding hold with_backings
  ranged_inside true = subst (λ l. q * 64 + 64 ≤ length l) (sym m1_places) (places_inside w q q_low)
  ranged_inside false = subst (λ l. q * 64 + 64 ≤ length l) (sym m1_places) (places_inside w q q_low)

  -- ---- the region added

  module _ (x : Region) (read : x ≡ r) (a : Machine) (demotes : a ≡ remapped (demoted_in x) m p) (b : Machine) (holds : b ≡ held_range a x) where
    b_is : b ≡ ranged (is_ranged r)
    b_is = holds ∙ (λ t. held_range (demotes' t) (read t)) ∙ m2_is
      where
        demotes' : a ≡ m1
        demotes' = demotes ∙ ap (λ (y : Region). remapped (demoted_in y) m p) read

    pub place_left : (process_at b q).attached < 64
    place_left =
        subst (λ (y : Machine). (process_at y q).attached < 64) (sym b_is)
        (room_left (ranged (is_ranged r)) q f (ranged_slot (is_ranged r)) (process_at (ranged (is_ranged r)) q) (ranged_ordered (is_ranged r)) (ranged_inside (is_ranged r)))

    module _ (y : Region) (row_is : y ≡ shared_row x) (c : Machine) (adds : c ≡ with_added b q f y) where
      c_is : c ≡ with_added (ranged (is_ranged r)) q f (shared_row r)
      c_is = adds ∙ (λ t. with_added (b_is t) q f (row_is' t))
        where
          row_is' : y ≡ shared_row r
          row_is' = row_is ∙ ap (λ (z : Region). shared_row z) read

      -- the new region's row is not the source's
      differ : row_of p s ≢ row_of q f
      differ e = k.used (ap (λ (i : ℕ). (get_or m.regions i no_region).kind) e ∙ free_kind m q f k.slot)

      entered : (j : ℕ) → (get_or m.entries j no_entry).owner ≡ row_of p s + 1 → Entered m (get_or m.entries j no_entry)
      entered j e = (owing.entries j).used (λ z. omega arith)

      page_low : (j : ℕ) → (get_or m.entries j no_entry).owner ≡ row_of p s + 1 → (get_or m.entries j no_entry).page.0 + 1 < 2 ^ 64
      page_low j e = page_next m owing j (λ z. omega arith)

      added_shareable : (n : Machine) → Between m n → Shareable (with_added n q f (shared_row r)) (row_of p s) (row_of q f)
      unfolding with_added free_entries
      added_shareable n t = record {
        ready = record { r2 = record { apart = r2.apart; within = r2.within; free = r2.free; next = r2.next }; rows = t.ready.rows; few = t.ready.few };
        once = subst OnceAPage (sym t.entries) sound.r6.once_a_page;
        other = differ;
        frames = λ j e z. let one = (entered j (own j e)).frame in let same = ap (λ l. (get_or l j no_entry).frame.0) t.entries in let len = t.len (get_or n.entries j no_entry).frame.0 in let here = ap (λ (i : ℕ). (backing_at m i).len) same in omega arith;
        pages = λ j e. let low = page_low j (own j e) in let same = ap (λ l. (get_or l j no_entry).page.0) t.entries in omega arith;
        holders = λ h. let a = m_few h in let b = t.holders h in omega arith;
        left = subst (λ l. length (single_pages l (row_of p s)) ≤ count (λ e. eqb e.owner 0) l) (sym t.entries) k.left;
      }
        where
          r2 : R2 n
          r2 = t.ready.r2

          own : (j : ℕ) → (get_or n.entries j no_entry).owner ≡ row_of p s + 1 → (get_or m.entries j no_entry).owner ≡ row_of p s + 1
          own j e = ap (λ l. (get_or l j no_entry).owner) (sym t.entries) ∙ e

      pub shares : Shareable c (row_of p s) (row_of q f)
      shares = subst (λ (z : Machine). Shareable z (row_of p s) (row_of q f)) (sym c_is) (added_shareable (ranged (is_ranged r)) (ranged_between (is_ranged r) refl))

      model_is : with_added (ranged (is_ranged r)) q f (shared_row r) ≡ add_region (share_range r (demote m p s)) q (shared_row r)
      unfolding share_range
      model_is =
          adds_region (ranged (is_ranged r)) q f (ranged_slot (is_ranged r)) (shared_row r) (ranged_ordered (is_ranged r)) (ranged_inside (is_ranged r))
          ∙ ap (λ (z : Machine). add_region (cond (is_ranged r) (hold z r.range.0) z) q (shared_row r)) m1_is

      c_entries : c.entries ≡ m.entries
      c_entries = ap (λ (z : Machine). z.entries) c_is ∙ kept (ranged (is_ranged r)) ∙ (ranged_between (is_ranged r) refl).entries
        where
          kept : (n : Machine) → (with_added n q f (shared_row r)).entries ≡ n.entries
          kept n = added_entries n q f (shared_row r)

      pub share_is : (n : Machine) → n ≡ each (share_entry (row_of q f)) (single_pages c.entries (row_of p s)) c → n ≡ shared_into m p s q
      share_is n all =
          all
          ∙ (λ t. each (share_entry (row_of q f)) (single_pages (c_entries t) (row_of p s)) ((c_is ∙ model_is) t))
          ∙ ap (λ (z : Option ℕ). each (share_entry (row_of q (row_found z))) (single_pages m.entries (row_of p s)) (add_region (share_range r (demote m p s)) q (shared_row r))) (sym k.slot)
