-- Unpin, remove and clear keep a machine sound.
use Rattle.std.specs.Prelude.{◌≡◌, ◌⊎◌, ◌≢◌, Bool, ◌&&◌, cond, ℕ, ◌-◌, ◌≤◌, ◌<◌, length, get_or, eqb}
use Rattle.std.proofs.Math.Path.{refl, subst}
use Rattle.std.proofs.Common.{sym, ◌∙◌, inl, inr, true≢false, length-take, get_or-set_other, ltb-true}
use Rattle.std.proofs.Math.Bool.{true, false, not}
use mathlib.Core.List.{List, [], ◌∷◌}
use native.Mathlib.Omega.{arith}
use Rattle.std.proofs.Math.Decide.{ℕ_discrete}
use Rattle.std.proofs.Math.Seq.{get_or-set_same}
use Rattle.std.proofs.lemmas.Bool.{eqb-false, not-true, not-false}
use Rattle.model.specs.declared.Region.{Region}
use Rattle.model.specs.declared.Mapping.{Mapping}
use Rattle.laws.specs.Lists.{keep, each}
use Rattle.model.specs.Machine.{Machine, State, with_mapped, with_order, with_region, process_at, region_at, row_of, order_of, mapped_of, most_pins, no_region}
use Rattle.model.specs.Lookup.{contains, is_pinned, is_attached, regions_of, is_used, is_found, row_found, any_region_for}
use Rattle.model.specs.Paging.{maps_in, page_start, unmap_from}
use Rattle.model.specs.Pins.{with_pins, unpin_region}
use Rattle.model.specs.Remove.{drop_region, remove_region, clear_regions}
use Rattle.model.specs.Refusals.{slot_at, unpin_slot, unpin_refusals, region_refusals, process_refusals}
use Rattle.model.specs.Calls as calls
use Rattle.model.specs.Run.{Call, call, step}
use Rattle.model.specs.Sound.{Sound, Used}
use Rattle.laws.specs.BoolLaws.{both_true, or_none}
use Rattle.model.specs.MachineLaws.{order_mapped}
use Rattle.laws.specs.In.{In, Once}
use Rattle.laws.specs.InListsLaws.{in_keep, among_in, in_among, without, in_without, without_in, length_without, once_without}
use Rattle.laws.specs.ListsLaws.{part_at, part_length}
use Rattle.model.specs.FoundRowLaws.{first_found}
use Rattle.keeping.specs.Owing.{Owing, Placed, row_at, nothing, Unlisted}
use Rattle.keeping.specs.OwingLaws.{open_low, listed_open, listed_row, slot_pinned}
use Rattle.keeping.specs.AlikeLaws.{Alike, alike_is, contains_as}
use Rattle.keeping.specs.PagesKept.{pages_kept, pages_read}
use Rattle.keeping.specs.OrderKept.{order_reads, order_kept}
use Rattle.keeping.specs.GuardedKept.{guarded_kept}
use Rattle.keeping.specs.ArgumentLaws.{named_at, open_by_test}
use Rattle.model.specs.FoundRowLaws.{found_row}
use Rattle.keeping.specs.CoreKept.{Lends, lends_then, machine_kept}
use Rattle.keeping.specs.PinKept.{pins_kept}
use Rattle.keeping.specs.DropKept.{drop_kept, drop_order, drop_pins, drop_lends}

order_few : (d : ℕ → ℕ) (m : Machine) → Owing d m → (p : ℕ) → p < 8 → length (order_of m p) ≤ 64
unfolding order_of
order_few d m o p h = let a = (o.arenas p h).attached in simp length-take (omega arith)

-- ---- a region taken out of its list: pinned, with none of its pages mapped

module _ (d : ℕ → ℕ) (m : Machine) (o : Owing d m) (p t : ℕ) (listed : In t (order_of m p)) where
  opened : (process_at m p).opened ≡ 1
  opened = listed_open d m o p t listed

  low : p < 8
  low = open_low m o p opened

  abbrev others : List ℕ
  others = without t (order_of m p)

  detach_kept : 1 ≤ (region_at m p t).pins → ((x : Mapping) → In x (mapped_of m p) → (k : Placed m p x) → k.slot ≢ t) → Owing d (with_order m p others)
  detach_kept pins unmapped =
      let fewer = length_without t (order_of m p) in
      let few = order_few d m o p low in
      order_kept d m o p opened others (omega arith) (once_without t (order_of m p) (o.once p low))
      (λ s i. o.listed p s low (in_without t s (order_of m p) i).0)
      pinned
      (λ x i k. without_in t k.slot (order_of m p) k.listed (unmapped x i k))
    where
      pinned : (s : ℕ) → s < 64 → Used (region_at m p s) → In s others ⊎ (1 ≤ (region_at m p s).pins)
      pinned s h u = go (ℕ_discrete s t)
        where
          still : In s (order_of m p) ⊎ (1 ≤ (region_at m p s).pins) → s ≢ t → In s others ⊎ (1 ≤ (region_at m p s).pins)
          still (inl i) z = inl (without_in t s (order_of m p) i z)
          still (inr i) z = inr i

          go : Dec (s ≡ t) → In s others ⊎ (1 ≤ (region_at m p s).pins)
          go (yes z) = inr (subst (λ (j : ℕ). 1 ≤ (region_at m p j).pins) (sym z) pins)
          go (no z) = still (slot_pinned m o p s h u) z

-- ---- remove

module _ (d : ℕ → ℕ) (m : Machine) (o : Owing d m) (p t : ℕ) (listed : In t (order_of m p)) where
  abbrev r : Region
  r = region_at m p t

  abbrev row : ℕ
  row = row_of p t

  m_opened : (process_at m p).opened ≡ 1
  m_opened = listed_open d m o p t listed

  m_low : p < 8
  m_low = open_low m o p m_opened

  -- its pages unmapped
  abbrev bare : Machine
  bare = unmap_from m p r

  bare_owing : Owing d bare
  unfolding unmap_from
  bare_owing = pages_kept d m o p m_opened (λ x. not (maps_in r x))

  bare_order : (q : ℕ) → order_of bare q ≡ order_of m q
  unfolding unmap_from
  bare_order q = order_mapped m p q (keep (λ x. not (maps_in r x)) (mapped_of m p))

  bare_listed : In t (order_of bare p)
  bare_listed = subst (λ l. In t l) (sym (bare_order p)) listed

  bare_reads : mapped_of bare p ≡ keep (λ x. not (maps_in r x)) (mapped_of m p)
  unfolding unmap_from
  bare_reads = pages_read d m o p m_low (λ x. not (maps_in r x))

  -- a mapping of the process is in another region
  elsewhere : (x : Mapping) → In x (mapped_of bare p) → (s : ℕ) → contains (region_at m p s) (page_start x.page.0) ≡ true → s ≢ t
  elsewhere x i s e z =
      let a = in_keep (λ y. not (maps_in r y)) x (mapped_of m p) (subst (λ l. In x l) bare_reads i) in
      true≢false (sym (subst (λ (j : ℕ). contains (region_at m p j) (page_start x.page.0) ≡ true) z e) ∙ not-true _ a.1)

  -- pinned: it stays, detached
  stays_kept : 1 ≤ r.pins → Owing d (with_order bare p (without t (order_of m p)))
  unfolding unmap_from with_mapped
  stays_kept pins =
      subst (λ l. Owing d (with_order bare p (without t l))) (bare_order p)
      (detach_kept d bare bare_owing p t bare_listed pins (λ x i k. elsewhere x i k.slot k.inside))

  -- not pinned: pinned, detached and dropped with its pin
  abbrev held : Machine
  held = with_region bare p t (with_pins r 1)

  bare_used : Used (region_at bare p t)
  unfolding unmap_from with_mapped
  bare_used = (o.listed p t m_low listed).1

  held_owing : Owing d held
  unfolding unmap_from with_mapped
  held_owing = pins_kept d bare bare_owing p t 1 bare_used (omega arith) (inr (omega arith))

  inside : row < length m.regions
  inside = let a = o.sizes.regions in let b = m_low in let c = (o.listed p t m_low listed).0 in omega arith

  held_row : (s : ℕ) → Alike (region_at m p s) (region_at held p s)
  unfolding unmap_from with_mapped
  held_row s = go (ℕ_discrete (row_of p s) row)
    where
      go : Dec (row_of p s ≡ row) → Alike (region_at m p s) (region_at held p s)
      go (yes z) = subst (λ (j : ℕ). Alike (row_at m j) (row_at held j)) (sym z)
          (subst (λ (y : Region). Alike r y) (sym (get_or-set_same m.regions row (with_pins r 1) no_region inside))
          (record { kind = refl; start = refl; size = refl; ranged = refl; range = refl }))
      go (no z) = alike_is (get_or-set_other m.regions row (row_of p s) (with_pins r 1) no_region z)

  -- detached
  abbrev out : Machine
  out = with_order held p (without t (order_of m p))

  out_owing : Owing d out
  unfolding order_of mapped_of
  out_owing = subst (λ l. Owing d (with_order held p (without t l))) (bare_order p)
      (detach_kept d held held_owing p t bare_listed (subst (λ (y : Region). 1 ≤ y.pins) (sym pinned_row) (omega arith))
      (λ x i k. elsewhere x i k.slot (sym (contains_as (page_start x.page.0) (held_row k.slot)) ∙ k.inside)))
    where
      pinned_row : region_at held p t ≡ with_pins r 1
      pinned_row =
          get_or-set_same bare.regions row (with_pins r 1) no_region
          (let a = bare_owing.sizes.regions in let b = m_low in let c = (o.listed p t m_low listed).0 in omega arith)

  held_listed : In t (order_of held p)
  unfolding order_of
  held_listed = bare_listed

  few_others : length (without t (order_of m p)) ≤ 64
  few_others = let a = length_without t (order_of m p) in let b = order_few d m o p m_low in omega arith

  out_order : order_of out p ≡ without t (order_of m p)
  out_order = order_reads d held held_owing p (listed_open d held held_owing p t held_listed) (without t (order_of m p)) few_others

  unlisted : Unlisted out row
  unlisted q s h i z =
      let a = (out_owing.listed q s h i).0 in
      let b = (o.listed p t m_low listed).0 in
      let same : q ≡ p = omega arith in
      let slot : s ≡ t = omega arith in
      let k = (in_without t s (order_of m p) (subst (λ l. In s l) out_order (subst (λ (j : ℕ). In s (order_of out j)) same i))).1 in
      k slot

  gone_kept : Owing d (drop_region (with_order bare p (without t (order_of m p))) p t)
  unfolding unmap_from with_mapped with_order
  gone_kept =
      subst (Owing d) (drop_pins (with_order bare p (without t (order_of m p))) p t 1 inside)
      (drop_kept d out out_owing p t (λ z. (o.listed p t m_low listed).1 (sym (held_row t).kind ∙ z)) unlisted)

  -- a region removed: detached if it is pinned, dropped if not
  pub remove_core : Owing d (remove_region m p t)
  unfolding remove_region
  remove_core = go (is_pinned r) refl
    where
      go : (b : Bool) → is_pinned r ≡ b
          → Owing d (cond b (with_order bare p (without t (order_of m p))) (drop_region (with_order bare p (without t (order_of m p))) p t))
      go true e = stays_kept (ltb-true 0 r.pins e)
      go false e = gone_kept

  -- the others stay where they are
  pub remove_order : order_of (remove_region m p t) p ≡ without t (order_of m p)
  unfolding remove_region
  remove_order = go (is_pinned r)
    where
      reads : order_of (with_order bare p (without t (order_of m p))) p ≡ without t (order_of m p)
      reads = order_reads d bare bare_owing p (listed_open d bare bare_owing p t bare_listed) (without t (order_of m p)) few_others

      go : (b : Bool)
          → order_of (cond b (with_order bare p (without t (order_of m p))) (drop_region (with_order bare p (without t (order_of m p))) p t)) p ≡ without t
          (order_of m p)
      go true = reads
      go false = drop_order (with_order bare p (without t (order_of m p))) p t p ∙ reads

remove_lends : (m : Machine) (p t : ℕ) → Lends m (remove_region m p t)
unfolding remove_region with_order unmap_from with_mapped
remove_lends m p t = go (is_pinned (region_at m p t))
  where
    out : Machine
    out = with_order (unmap_from m p (region_at m p t)) p (without t (order_of m p))

    go : (b : Bool) → Lends m (cond b out (drop_region out p t))
    go true = record { files = refl; file_count = refl; frame_count = refl }
    go false = let k = drop_lends out p t in record { files = k.files; file_count = k.file_count; frame_count = k.frame_count }

pub remove_kept : (s : State) → Sound s → (p a : ℕ) → Sound (step (Call.remove p a) s)
unfolding step call calls.remove region_refusals
remove_kept s sound p a =
    guarded_kept s _ _ _ sound (λ k. machine_kept s _ sound (remove_lends s.machine p (slot_at s p a))
    (λ o. remove_core nothing s.machine o p (slot_at s p a) (named_at s.machine p a k.0 k.1.1.0).listed))

-- ---- clear

-- what else is to be removed is still listed
pub still_listed : (d : ℕ → ℕ) (m : Machine) (o : Owing d m) (p t : ℕ) (listed : In t (order_of m p)) (l : List ℕ) → (In t l → ⊥)
    → ((s : ℕ) → In s l → In s (order_of m p)) → (s : ℕ) → In s l → In s (order_of (remove_region m p t) p)
still_listed d m o p t listed l once more s i =
    subst (λ k. In s k) (sym (remove_order d m o p t listed)) (without_in t s (order_of m p) (more s i) (λ z. once (subst (λ (j : ℕ). In j l) z i)))

module _ (d : ℕ → ℕ) (p : ℕ) where
  clear_each : (l : List ℕ) (m : Machine) → Owing d m → Once l → ((t : ℕ) → In t l → In t (order_of m p)) → Owing d (each (λ s n. remove_region n p s) l m)
  unfolding each
  clear_each [] m o once listed = o
  clear_each (t ∷ l) m o once listed =
      clear_each l (remove_region m p t) (remove_core d m o p t (listed t (inl refl))) once.1
      (still_listed d m o p t (listed t (inl refl)) l once.0 (λ s i. listed s (inr i)))

  -- every attached region removed
  pub clear_core : (m : Machine) → Owing d m → p < 8 → Owing d (clear_regions m p)
  unfolding clear_regions
  clear_core m o h = clear_each (order_of m p) m o (o.once p h) (λ t i. i)

clear_lends_each : (p : ℕ) (l : List ℕ) (m : Machine) → Lends m (each (λ s n. remove_region n p s) l m)
unfolding each
clear_lends_each p [] m = record { files = refl; file_count = refl; frame_count = refl }
clear_lends_each p (t ∷ l) m = lends_then (remove_lends m p t) (clear_lends_each p l (remove_region m p t))

pub clear_lends : (p : ℕ) (m : Machine) → Lends m (clear_regions m p)
unfolding clear_regions
clear_lends p m = clear_lends_each p (order_of m p) m

pub clear_kept : (s : State) → Sound s → (p : ℕ) → Sound (step (Call.clear p) s)
unfolding step call calls.clear process_refusals
clear_kept s sound p =
    guarded_kept s _ _ _ sound (λ k. machine_kept s _ sound (clear_lends p s.machine)
    (λ o. clear_core nothing p s.machine o (open_low s.machine o p (open_by_test s.machine p k.0))))

-- ---- unpin

-- a region of a process, attached or not
pub any_found : (d : ℕ → ℕ) (m : Machine) → Owing d m → (p a : ℕ) → p < 8 → not (is_found (any_region_for m p a)) ≡ false
    → (row_found (any_region_for m p a) < 64) × Used (region_at m p (row_found (any_region_for m p a)))
unfolding any_region_for
any_found d m o p a h e =
    let t : ℕ = row_found (any_region_for m p a) in
    let k = first_found (λ r. is_used r && contains r a) (regions_of m p) t no_region (found_row (any_region_for m p a) e) in
    let size = o.sizes.regions in
    let few = part_length m.regions 64 p (omega arith) in
    let in_row = k.0 in
    let low : t < 64 = omega arith in
    let b = both_true (is_used (get_or (regions_of m p) t no_region)) (contains (get_or (regions_of m p) t no_region) a) k.1 in
    (low, subst (λ (r : Region). Used r) (part_at m.regions 64 p t no_region low) (eqb-false _ 0 (not-true _ b.0)))

module _ (d : ℕ → ℕ) (m : Machine) (o : Owing d m) (p t : ℕ) (h : p < 8) (small : t < 64) (taken : Used (region_at m p t))
    (pinned : 1 ≤ (region_at m p t).pins) where
  -- a pin less; a detached region is dropped with its last
  pub unpin_core : Owing d (unpin_region m p t)
  unfolding unpin_region
  unpin_core = go (eqb (region_at m p t).pins 1) refl (is_attached m p t) refl
    where
      few : (region_at m p t).pins - 1 ≤ most_pins
      few = let k = ((o.regions (row_of p t)).used taken).pins in omega arith

      go : (a : Bool) → eqb (region_at m p t).pins 1 ≡ a → (b : Bool) → is_attached m p t ≡ b
          → Owing d (cond (a && not b) (drop_region m p t) (with_region m p t (with_pins (region_at m p t) ((region_at m p t).pins - 1))))
      go true e true f = pins_kept d m o p t ((region_at m p t).pins - 1) taken few (inl (listed_row m p t small (among_in t (order_of m p) f)))
      go true e false f = drop_kept d m o p t taken (λ q s k i z. let b = (o.listed q s k i).0 in let same : q ≡ p = omega arith in
          let slot : s ≡ t = omega arith in
          true≢false (sym (in_among t (order_of m p) (subst (λ (j : ℕ). In j (order_of m p)) slot (subst (λ (j : ℕ). In s (order_of m j)) same i))) ∙ f))
      go false e b f = let many = eqb-false (region_at m p t).pins 1 e in pins_kept d m o p t ((region_at m p t).pins - 1) taken few (inr (omega (arith, many)))

unpin_lends : (m : Machine) (p t : ℕ) → Lends m (unpin_region m p t)
unfolding unpin_region
unpin_lends m p t = go (eqb (region_at m p t).pins 1 && not (is_attached m p t))
  where
    go : (b : Bool) → Lends m (cond b (drop_region m p t) (with_region m p t (with_pins (region_at m p t) ((region_at m p t).pins - 1))))
    go true = drop_lends m p t
    go false = record { files = refl; file_count = refl; frame_count = refl }

pub unpin_kept : (s : State) → Sound s → (p a : ℕ) → Sound (step (Call.unpin p a) s)
unfolding step call calls.unpin unpin_refusals
unpin_kept s sound p a =
    guarded_kept s _ _ _ sound (λ k. machine_kept s _ sound (unpin_lends s.machine p (unpin_slot s p a))
    (λ o. core o (open_by_test s.machine p k.0) (or_none (not (is_found (any_region_for s.machine p a)))
    (not (is_pinned (region_at s.machine p (unpin_slot s p a)))) k.1.1.0)))
  where
    core : Owing nothing s.machine → (process_at s.machine p).opened ≡ 1
        → (not (is_found (any_region_for s.machine p a)) ≡ false) × (not (is_pinned (region_at s.machine p (unpin_slot s p a))) ≡ false)
        → Owing nothing (unpin_region s.machine p (unpin_slot s p a))
    core o opened e =
        let h = open_low s.machine o p opened in
        let k = any_found nothing s.machine o p a h e.0 in
        unpin_core nothing s.machine o p (unpin_slot s p a) h k.0 k.1 (ltb-true 0 _ (not-false _ e.1))
