-- Protect keeps a machine sound: the region's pages unmapped, its flags changed, its pages mapped again with other flags.
use Rattle.std.specs.Prelude.{◌≡◌, ◌⊎◌, ◌≢◌, Bool, cond, List, ℕ, ◌-◌, ◌*◌, ◌/◌, ◌%◌, ◌≤◌, ◌<◌, ltb}
use Rattle.std.proofs.Math.Path.{refl, ap, subst}
use Rattle.std.proofs.Common.{sym, ◌∙◌, inl, inr, arith}
use Rattle.std.proofs.Math.Bool.{true, false, not, true≢false}
use Rattle.std.proofs.Math.Decide.{ℕ_discrete}
use Rattle.std.proofs.Math.Seq.{get_or-set_same, get_or-set_other}
use borrow.Author.Tests.{ltb-false, eqb-false, ne_eqb, not-true, not-false}
use Rattle.address.specs.Bits.{bit}
use Rattle.address.specs.Flags.{good_flags, read_only}
use Rattle.model.specs.declared.Region.{Region}
use Rattle.model.specs.declared.Mapping.{Mapping}
use Rattle.laws.specs.Lists.{keep}
use Rattle.model.specs.Machine.{Machine, State, process_at, with_region, with_mapped, region_at, row_of, order_of, mapped_of, no_region}
use Rattle.model.specs.Lookup.{contains}
use Rattle.model.specs.Paging.{maps_in, mapping, remap_where, page_start, is_writable}
use Rattle.model.specs.Backing.{backing_at, backing}
use Rattle.model.specs.Protect.{holders_by, with_flags, page_flags, set_protection}
use Rattle.model.specs.Refusals.{slot_at, protect_refusals}
use Rattle.model.specs.Calls as calls
use Rattle.model.specs.Run.{Call, call, step}
use Rattle.model.specs.Sound.{Sound, Used, Flagged, RegionFits, Limits}
use Rattle.model.specs.MachineLaws.{order_mapped}
use Rattle.model.specs.MappedBelowLaws.{length_remap}
use Rattle.laws.specs.In.{In}
use Rattle.laws.specs.InListsLaws.{in_keep}
use Rattle.keeping.specs.Owing.{Owing, Placed, row_at, nothing}
use Rattle.keeping.specs.OwingLaws.{open_low, home_one, listed_open}
use Rattle.keeping.specs.BacksLaws.{backing_of}
use Rattle.keeping.specs.AlikeLaws.{Alike, fits_as, placed_as, placed_with}
use Rattle.keeping.specs.MappedKept.{mapped_kept, mapped_again}
use Rattle.keeping.specs.MapOrderLaws.{rising_remap, in_remap, remapped}
use Rattle.keeping.specs.PagesKept.{few_pages, pages_kept, base_held, pages_read}
use Rattle.keeping.specs.SlotsKept.{row_kept, rows_alike}
use Rattle.keeping.specs.GuardedKept.{guarded_kept}
use Rattle.keeping.specs.ArgumentLaws.{Named, named_at}
use Rattle.keeping.specs.CoreKept.{machine_kept}

-- flags without WRITABLE are not writable
pub read_only_unwritable : (f : ℕ) → is_writable (read_only f) ≡ false
unfolding read_only bit
read_only_unwritable f = ne_eqb ((f - f / 2 % 2 * 2) / 2 % 2) 1 (λ e. omega arith)

-- flags that a page gets where its holders are known
flags_fit : (r : Region) (flags h : ℕ) → r.kind ≢ 3 → 1 ≤ h → Flagged (with_flags r flags) (cond (ltb 1 h) (read_only flags) flags) h
flags_fit r flags h u some = go (ltb 1 h) refl
  where
    go : (b : Bool) → ltb 1 h ≡ b → Flagged (with_flags r flags) (cond b (read_only flags) flags) h
    go true e = record { private = λ z. inr refl; lone = λ z w. absurd (true≢false (sym w ∙ read_only_unwritable flags)); shared = λ z. absurd (u z) }
    go false e = let l = ltb-false 1 h e in record { private = λ z. inl refl; lone = λ z w. omega arith; shared = λ z. absurd (u z) }

module _ (d : ℕ → ℕ) (m : Machine) (o : Owing d m) (p t flags : ℕ) (listed : In t (order_of m p)) (unshared : (region_at m p t).kind ≢ 3)
    (good : good_flags flags ≡ true) where
  abbrev r : Region
  r = region_at m p t

  abbrev row : ℕ
  row = row_of p t

  abbrev others : List Mapping
  others = keep (λ x. not (maps_in r x)) (mapped_of m p)

  -- its pages unmapped
  abbrev bare : Machine
  bare = with_mapped m p others

  opened : (process_at m p).opened ≡ 1
  opened = listed_open d m o p t listed

  low : p < 8
  low = open_low m o p opened

  is : (t < 64) × Used r
  is = o.listed p t low listed

  bare_owing : Owing d bare
  bare_owing = pages_kept d m o p opened (λ x. not (maps_in r x))

  bare_reads : mapped_of bare p ≡ others
  bare_reads = pages_read d m o p low (λ x. not (maps_in r x))

  bare_used : Used (row_at bare row)
  unfolding with_mapped
  bare_used = is.1

  alike : Alike (row_at bare row) (with_flags r flags)
  unfolding with_mapped
  alike = record { kind = refl; start = refl; size = refl; ranged = refl; range = refl }

  fits : RegionFits bare (with_flags r flags)
  unfolding with_mapped
  fits = fits_as m bare (with_flags r flags) refl (λ u e. refl) (record { free = λ z. absurd (is.1 z); used = λ u. limits ((o.regions row).used is.1) })
    where
      limits : Limits m r → Limits m (with_flags r flags)
      limits k = record {
        kind = k.kind;
        aligned_start = k.aligned_start;
        some = k.some;
        user_segment = k.user_segment;
        pins = k.pins;
        flags = λ z. (good, (k.flags z).1);
        shared = λ z. absurd (unshared z);
        file = k.file;
        no_file = k.no_file;
        ranged = k.ranged;
        unranged = k.unranged;
      }

  pins : In (row % 64) (order_of bare (row / 64)) ⊎ (1 ≤ (with_flags r flags).pins)
  unfolding with_mapped
  pins = bare_owing.pinned row bare_used

  -- none of its pages is mapped
  nowhere : (q : ℕ) → q < 8 → (x : Mapping) → In x (mapped_of bare q) → (k : Placed bare q x) → row_of q k.slot ≡ row
      → Flagged (with_flags r flags) x.flags.0 (backing_at bare k.base).holders
  unfolding with_mapped
  nowhere q h x i k e = go (ℕ_discrete q p)
    where
      here : q ≡ p → ⊥
      here z =
          let a = in_keep (λ y. not (maps_in r y)) x (mapped_of m p) (subst (λ l. In x l) bare_reads (subst (λ (j : ℕ). In x (mapped_of bare j)) z i)) in
          let b = subst (λ (j : ℕ). contains (row_at m j) (page_start x.page.0) ≡ true) e k.inside in
          true≢false (sym b ∙ not-true _ a.1)

      go : Dec (q ≡ p) → Flagged (with_flags r flags) x.flags.0 (backing_at bare k.base).holders
      go (yes z) = absurd (here z)
      go (no z) = let s = (bare_owing.listed q k.slot h k.listed).0 in let u = is.0 in absurd (z (omega arith))

  -- its flags changed
  abbrev changed : Machine
  changed = with_region bare p t (with_flags r flags)

  changed_owing : Owing d changed
  changed_owing = row_kept d bare bare_owing row bare_used (with_flags r flags) alike fits pins nowhere

  -- its pages mapped again
  abbrev new_flags : Mapping → ℕ
  new_flags x = page_flags m p t flags x.page.0

  abbrev table : List Mapping
  table = remap_where (maps_in r) new_flags (mapped_of m p)

  module _ (x : Mapping) (k : Placed m p x) where
    still_listed : In k.slot (order_of changed p)
    unfolding order_of
    still_listed = subst (λ l. In k.slot l) (sym (order_mapped m p p others)) k.listed

    still_alike : Alike (region_at m p k.slot) (region_at changed p k.slot)
    unfolding with_mapped
    still_alike = rows_alike bare row bare_used (with_flags r flags) alike (row_of p k.slot)

    inside : maps_in r x ≡ true → k.slot ≡ t
    inside e = home_one m o p low (page_start x.page.0) k.slot t k.listed listed k.inside e

    new_row : k.slot ≡ t → region_at changed p k.slot ≡ with_flags r flags
    unfolding with_mapped
    new_row e =
        let l = low in
        let s = is.0 in
        let a = o.sizes.regions in
        ap (λ (j : ℕ). region_at changed p j) e ∙ get_or-set_same m.regions row (with_flags r flags) no_region (omega arith)

    old_row : k.slot ≢ t → region_at changed p k.slot ≡ region_at m p k.slot
    unfolding with_mapped
    old_row e = get_or-set_other m.regions row (row_of p k.slot) (with_flags r flags) no_region (λ z. e (omega arith))

    new_flags_fit : k.slot ≡ t → Flagged (with_flags r flags) (new_flags x) (backing_at m k.base).holders
    unfolding page_flags
    new_flags_fit e =
        let b = (backing_of m p k.slot x.page.0 o.once_a_page k.base x.frame.0 k.backed).1 in
        let c = subst (λ (j : ℕ). holders_by (backing m p j x.page.0) ≡ (backing_at m k.base).holders) e b in
        subst (λ (h : ℕ). Flagged (with_flags r flags) (cond (ltb 1 h) (read_only flags) flags) (backing_at m k.base).holders) (sym c)
        (flags_fit r flags (backing_at m k.base).holders unshared (base_held d m o (row_of p k.slot) x.page.0 k.base x.frame.0 k.backed))

    placed : Placed changed p (remapped (maps_in r) new_flags x)
    unfolding with_mapped
    placed = go (maps_in r x) refl
      where
        go : (b : Bool) → maps_in r x ≡ b → Placed changed p (cond b (mapping x.page.0 x.frame.0 (new_flags x)) x)
        go true e = placed_with m changed (new_flags x) p x k still_listed (λ i. refl) still_alike refl
            (subst (λ (y : Region). Flagged y (new_flags x) (backing_at m k.base).holders) (sym (new_row (inside e))) (new_flags_fit (inside e)))
        go false e = placed_as m changed p x k still_listed (λ i. refl) still_alike refl
            (subst (λ (y : Region). Flagged y x.flags.0 (backing_at m k.base).holders) (sym (old_row outside)) k.flagged)
          where
            outside : k.slot ≢ t
            outside z = true≢false (sym (subst (λ (j : ℕ). contains (region_at m p j) (page_start x.page.0) ≡ true) z k.inside) ∙ e)

  changed_opened : (process_at changed p).opened ≡ 1
  unfolding with_mapped
  changed_opened = let l = low in let a = o.sizes.processes in ap (λ q. q.opened) (get_or-set_same m.processes p _ _ (omega arith)) ∙ opened

  -- a private region with other flags
  pub protection_kept : Owing d (set_protection m p t flags)
  unfolding set_protection with_mapped
  protection_kept =
      let l = low in
      let b = o.sizes.mapped in
      let same = length_remap (maps_in r) new_flags (mapped_of m p) in
      let few = few_pages d m o p low in
      subst (Owing d) (mapped_again (with_region m p t (with_flags r flags)) p others table (omega arith))
      (mapped_kept d changed changed_owing p changed_opened table (rising_remap (maps_in r) new_flags (mapped_of m p) (o.paged p low).rising) (omega arith) each)
    where
      each : (y : Mapping) → In y table → Placed changed p y
      each y i =
          let q = in_remap (maps_in r) new_flags y (mapped_of m p) i in
          subst (Placed changed p) (sym q.1.1) (placed q.0 (o.mapped p low q.0 q.1.0))

pub protect_kept : (s : State) → Sound s → (p a flags : ℕ) → Sound (step (Call.protect p a flags) s)
unfolding step call calls.protect protect_refusals set_protection with_mapped
protect_kept s sound p a flags =
    guarded_kept s _ _ _ sound (λ k. machine_kept s _ sound (record { files = refl; file_count = refl; frame_count = refl })
    (λ o. core o (named_at s.machine p a k.0 k.1.1.1.0) (not-false _ k.1.1.0) (eqb-false _ 3 k.1.1.1.1.0)))
  where
    core : Owing nothing s.machine → Named s.machine p (slot_at s p a) a → good_flags flags ≡ true → (region_at s.machine p (slot_at s p a)).kind ≢ 3
        → Owing nothing (set_protection s.machine p (slot_at s p a) flags)
    core o named good unshared = protection_kept nothing s.machine o p (slot_at s p a) flags named.listed unshared good
