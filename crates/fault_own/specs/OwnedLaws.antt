-- A page's own frame on a sound machine: what the code leaves is what the model says.
use Rattle.std.specs.Prelude.{◌≡◌, ◌≢◌, Bool, ◌&&◌, cond, List, [], ◌∷◌, ℕ, ◌+◌, ◌-◌, ◌<◌, length, get_or, set, eqb, ltb, leb, Option, Some, None}
use Rattle.std.proofs.Math.Path.{refl, ap}
use Rattle.std.proofs.Common.{sym, subst, ◌∙◌, get_or-set_same, get_or-set_other}
use Rattle.std.proofs.Math.Bool.{true, false, not}
use native.Mathlib.Omega.{arith}
use Rattle.std.proofs.Math.Decide.{ℕ_discrete}
use borrow.Author.Tests.{eqb-true, not-false}
use Rattle.model.specs.declared.Region.{Region}
use Rattle.model.specs.declared.Mapping.{Mapping}
use Rattle.model.specs.declared.Entry.{Entry}
use Rattle.model.specs.declared.Pool.{Pool}
use Rattle.model.specs.declared.Backing.{Backing}
use Rattle.model.specs.declared.Backed.{Backed}
use Rattle.model.specs.declared.Backed.TheVariants.{ByRange, Unbacked}
use Rattle.laws.specs.Lists.{keep}
use Rattle.model.specs.Layout.{machine}
use Rattle.model.specs.Machine.{Machine, region_at, row_of, mapped_of, with_mapped, with_entries, no_entry, no_backing}
use Rattle.model.specs.MachineLaws.{mapped_put}
use Rattle.model.specs.Lookup.{is_ranged, free_entry, is_found}
use Rattle.laws.specs.BoolLaws.{both_true}
use Rattle.model.specs.Paging.{mapping, translate, map_page, unmap_page}
use Rattle.model.specs.Backing.{backing_at, backing, entry_for, claim, let_go, add_entry, with_backing, with_backings}
use Rattle.model.specs.Fault.{no_entry_left, re_entry}
use Rattle.model.specs.Sound.{Sound}
use Rattle.rows.specs.LentMemory.{state_of}
use Rattle.lookup.specs.Lookups.{entry_of}
use Rattle.model.specs.FoundRowLaws.{first_found}
use Rattle.lookup.specs.Backed.{by_range, pages_past}
use Rattle.paging.specs.Mapper.{map_by, unmap_by}
use Rattle.paging.specs.WellPaged.{WellPaged}
use Rattle.paging.specs.MapperLaws.{well_paged, unmap_law, map_law}
use Rattle.backing.specs.BackingSteps.{claimed}
use Rattle.backing.specs.Ready.{Ready}
use Rattle.backing.specs.BackingLaws.{FreeRun, sound_ready, next_free, claim_is, claim_ready, release_is, used_low}
use Rattle.remove.specs.AccountedLaws.{ready_same}
use Rattle.keeping.specs.Owing.{Owing, nothing}
use Rattle.keeping.specs.OwingOfSound.{sound_owing}
use Rattle.keeping.specs.OwingLaws.{open_low}
use Rattle.keeping.specs.MappedKept.{mapped_again}
use Rattle.keeping.specs.PagesKept.{pages_kept}
use Rattle.keeping.specs.FreeLaws as free
use Rattle.fault_way.specs.WayLaws.{words_sound}
use Rattle.fault_needs.specs.WayNeeds.{entry_full}
use Rattle.fault_needs.specs.WayNeedsLaws.{through_entry, through_range}
use Rattle.fault_own.specs.Entered.{EntryReady, re_entry_by, entry_row}
use Rattle.fault_own.specs.Owned.{OwnFits, owned}

-- an unmapped page is not mapped
unmapped_not : (page : ℕ) (l : List Mapping) → translate (unmap_page l page) page ≡ None
unfolding translate unmap_page keep
unmapped_not page [] = refl
unmapped_not page (y ∷ l) = go (eqb y.page.0 page) refl (unmapped_not page l)
  where
    go : (b : Bool) → eqb y.page.0 page ≡ b → translate (keep (λ x. not (eqb x.page.0 page)) l) page ≡ None → translate (cond (not b) (y ∷ keep (λ x. not (eqb x.page.0 page)) l) (keep (λ x. not (eqb x.page.0 page)) l)) page ≡ None
    go true e more = more
    go false e more = rw e more

-- backings and entries change alike, whatever a page table is
module _ (m : Machine) (p : ℕ) (l : List Mapping) (new : ℕ) where
  moved_add : (row page : ℕ) → add_entry (claim (with_mapped m p l) new 1) row page new ≡ with_mapped (add_entry (claim m new 1) row page new) p l
  unfolding add_entry claim with_backings with_mapped free_entry
  moved_add row page = refl

  moved_let_go : (fr i : ℕ) (e : Entry) → with_entries (let_go (claim (with_mapped m p l) new 1) fr) (set (let_go (claim (with_mapped m p l) new 1) fr).entries i e) ≡ with_mapped (with_entries (let_go (claim m new 1) fr) (set (claim m new 1).entries i e)) p l
  unfolding let_go claim with_backings with_mapped
  moved_let_go fr i e = go (leb (backing_at (claim m new 1) fr).holders 1)
    where
      one : Machine
      one = claim (with_mapped m p l) new 1

      two : Machine
      two = claim m new 1

      go : (b : Bool)
          → with_entries (cond b (with_backing one fr 0 0) (with_backing one fr (backing_at one fr).len ((backing_at one fr).holders - 1))) (set (cond b (with_backing one fr 0 0) (with_backing one fr (backing_at one fr).len ((backing_at one fr).holders - 1))).entries i e)
          ≡ with_mapped (with_entries (cond b (with_backing two fr 0 0) (with_backing two fr (backing_at two fr).len ((backing_at two fr).holders - 1))) (set two.entries i e)) p l
      go true = refl
      go false = refl

range_added : (n m : Machine) (r : Region) (row page new : ℕ) → re_entry n row page (by_range m r page) new ≡ add_entry n row page new
unfolding re_entry
range_added n m r row page new = go (is_ranged r && ltb (pages_past r page) (backing_at m r.range.0).len)
  where
    go : (b : Bool) → re_entry n row page (cond b (ByRange (record { 0 = r.range.0 + pages_past r page }) (backing_at m r.range.0).holders) Unbacked) new ≡ add_entry n row page new
    go true = refl
    go false = refl

module _ (w : List ℕ) (p slot page : ℕ) (fits : OwnFits w p slot page) where
  abbrev m : Machine
  m = machine w

  sound : Sound (state_of w fits.sound.frames fits.sound.files)
  sound = words_sound w fits.sound

  o : Owing nothing m
  o = sound_owing (state_of w fits.sound.frames fits.sound.files) sound

  pub process_low : p < 8
  process_low = open_low m o p fits.opened

  abbrev rest : List Mapping
  rest = unmap_page (mapped_of m p) page

  abbrev bare : Machine
  bare = with_mapped m p rest

  bare_owing : Owing nothing bare
  unfolding unmap_page
  bare_owing = pages_kept nothing m o p fits.opened (λ x. not (eqb x.page.0 page))

  bare_paged : WellPaged bare p
  bare_paged = record { process = process_low; table = bare_owing.sizes.mapped; few = (bare_owing.arenas p process_low).mapped; paged = bare_owing.paged p process_low }

  bare_rows : mapped_of bare p ≡ rest
  bare_rows = let k = o.sizes.processes in let t = o.sizes.mapped in let h = process_low in let r = fits.room in mapped_put m p (omega arith) rest (omega arith) (omega arith)

  mapped_is : (x : Mapping) → x.page.0 ≡ page → map_by (unmap_by m p page) p x ≡ with_mapped m p (map_page rest x)
  mapped_is x e =
      let t = o.sizes.mapped in
      let h = process_low in
      let none : translate (mapped_of bare p) x.page.0 ≡ None = ap (λ (l : List Mapping). translate l x.page.0) bare_rows ∙ ap (λ (i : ℕ). translate rest i) e ∙ unmapped_not page (mapped_of m p) in
      let few : length (mapped_of bare p) < 128 = rw bare_rows fits.room in
      ap (λ (n : Machine). map_by n p x) (unmap_law m p (well_paged (state_of w fits.sound.frames fits.sound.files) p sound h) page)
      ∙ map_law bare p bare_paged x none few
      ∙ ap (λ (l : List Mapping). with_mapped bare p (map_page l x)) bare_rows
      ∙ mapped_again m p rest (map_page rest x) (omega arith)

  -- the frame

  abbrev new : ℕ
  new = m.pool.next.0

  next_low : new < m.frame_count
  next_low = let k = (free.next_run nothing m o fits.frame).inside in omega arith

  pub next_row : new < 256
  next_row = let a = next_low in let b = o.sizes.frame_count in omega arith

  module _ (l : List Mapping) where
    abbrev put : Machine
    put = with_mapped m p l

    put_ready : Ready put
    unfolding with_mapped
    put_ready = ready_same m (with_mapped m p l) refl refl refl (sound_ready sound)

    put_run : FreeRun put new 1
    unfolding with_mapped
    put_run = next_free (with_mapped m p l) put_ready next_low

    claimed_is : claimed put new 1 ≡ claim put new 1
    claimed_is = claim_is put put_ready new 1 put_run

    entries_same : entry_for (claim put new 1) (row_of p slot) page ≡ entry_for m (row_of p slot) page
    unfolding entry_for claim with_backings with_mapped
    entries_same = refl

    -- the entry's frame is one of a backing in use, before the claim and after
    entry_used : (i : ℕ) → entry_for m (row_of p slot) page ≡ Some i → (backing_at m (get_or m.entries i no_entry).frame.0).len ≡ 1
    unfolding entry_for
    entry_used i e =
        let found = first_found (entry_of (row_of p slot + 1) page) m.entries i no_entry e in
        let owner = eqb-true (get_or m.entries i no_entry).owner (row_of p slot + 1) (both_true _ _ found.1).0 in
        ((o.entries i).used (λ z. omega arith)).frame

    still_used : (f : ℕ) → (backing_at m f).len ≡ 1 → (backing_at (claim put new 1) f).len ≢ 0
    unfolding claim with_backings with_mapped
    still_used f e z = go (ℕ_discrete f new)
      where
        go : Dec (f ≡ new) → ⊥
        go (yes q) = let k = o.sizes.backings in let h = next_row in let a = ap (λ (b : Backing). b.len) (get_or-set_same m.backings new (record { len = 1; holders = 1 }) no_backing (omega arith)) in let c = ap (λ (i : ℕ). (get_or (set m.backings new (record { len = 1; holders = 1 })) i no_backing).len) q in omega arith
        go (no q) = let a = ap (λ (b : Backing). b.len) (get_or-set_other m.backings new f (record { len = 1; holders = 1 }) no_backing q) in omega arith

    entry_low : (i : ℕ) → entry_for m (row_of p slot) page ≡ Some i → (get_or m.entries i no_entry).frame.0 < 256
    entry_low i e =
        let one = entry_used i e in
        let low = used_low m (sound_ready sound) (get_or m.entries i no_entry).frame.0 (λ z. omega arith) in
        let few = o.sizes.frame_count in
        omega arith

    ready_by : (f : Option ℕ) → entry_for m (row_of p slot) page ≡ f → EntryReady (claim put new 1) f
    unfolding claim with_backings with_mapped free_entry
    ready_by (Some i) e = entry_low i e
    ready_by None e = not_none (is_found (free_entry m)) (left (by_range m (region_at m p slot) page) (through_range m p slot page (sym e)))
      where
        not_none : (b : Bool) → not b ≡ false → b ≡ true
        not_none b h = not-false b h

        left : (b : Backed) → b ≡ backing m p slot page → no_entry_left m ≡ false
        left b g = go (is_ranged (region_at m p slot) && ltb (pages_past (region_at m p slot) page) (backing_at m (region_at m p slot).range.0).len) (ap (λ (y : Backed). entry_full m y) (through_range m p slot page (sym e)) ∙ fits.entry)
          where
            go : (c : Bool) → entry_full m (cond c (ByRange (record { 0 = (region_at m p slot).range.0 + pages_past (region_at m p slot) page }) (backing_at m (region_at m p slot).range.0).holders) Unbacked) ≡ false → no_entry_left m ≡ false
            go true h = h
            go false h = h

    -- the model's entry
    went : (f : Option ℕ) → entry_for m (row_of p slot) page ≡ f → re_entry_by (claim put new 1) (row_of p slot) page new f ≡ with_mapped (re_entry (claim m new 1) (row_of p slot) page (backing m p slot page) new) p l
    unfolding re_entry claim with_backings with_mapped
    went (Some i) e =
        let fr = (get_or m.entries i no_entry).frame.0 in
        ap (λ (n : Machine). with_entries n (set n.entries i (entry_row (row_of p slot) page new))) (release_is (claim put new 1) (claim_ready put put_ready new 1 put_run) fr (still_used fr (entry_used i e)))
        ∙ moved_let_go m p l new fr i (entry_row (row_of p slot) page new)
        ∙ ap (λ (b : Backed). with_mapped (re_entry (claim m new 1) (row_of p slot) page b new) p l) (through_entry m p slot page i (sym e))
    went None e =
        moved_add m p l new (row_of p slot) page
        ∙ ap (λ (n : Machine). with_mapped n p l) (sym (range_added (claim m new 1) m (region_at m p slot) (row_of p slot) page new) ∙ ap (λ (b : Backed). re_entry (claim m new 1) (row_of p slot) page b new) (through_range m p slot page (sym e)))

  -- the code's steps

  module _ (q : Pool) (pooled : q ≡ m.pool) (r : Region) (row : r ≡ region_at m p slot) where
    abbrev all : List Mapping
    all = map_page rest (mapping page new (region_at m p slot).flags.0)

    pub frame_row : q.next.0 < 256
    frame_row = subst (λ (x : Pool). x.next.0 < 256) (sym pooled) next_row

    module _ (u : Machine) (maps : u ≡ map_by (unmap_by m p page) p (mapping page q.next.0 r.flags.0)) (v : Machine) (claims : v ≡ claimed u q.next.0 1) where
      is_mapped : u ≡ with_mapped m p all
      is_mapped = maps ∙ (λ i. map_by (unmap_by m p page) p (mapping page (pooled i).next.0 (row i).flags.0)) ∙ mapped_is (mapping page new (region_at m p slot).flags.0) refl

      is_claimed : v ≡ claim (with_mapped m p all) new 1
      is_claimed = claims ∙ (λ i. claimed (is_mapped i) (pooled i).next.0 1) ∙ claimed_is all

      pub own_ready : EntryReady v (entry_for v (row_of p slot) page)
      own_ready = subst (λ (n : Machine). EntryReady n (entry_for n (row_of p slot) page)) (sym is_claimed) (subst (λ (f : Option ℕ). EntryReady (claim (with_mapped m p all) new 1) f) (sym (entries_same all)) (ready_by all (entry_for m (row_of p slot) page) refl))

      pub own_done : (z : Machine) → z ≡ re_entry_by v (row_of p slot) page q.next.0 (entry_for v (row_of p slot) page) → z ≡ owned m p slot page
      unfolding owned
      own_done z enters =
          enters
          ∙ (λ i. re_entry_by (is_claimed i) (row_of p slot) page (pooled i).next.0 (entry_for (is_claimed i) (row_of p slot) page))
          ∙ ap (λ (f : Option ℕ). re_entry_by (claim (with_mapped m p all) new 1) (row_of p slot) page new f) (entries_same all)
          ∙ went all (entry_for m (row_of p slot) page) refl
