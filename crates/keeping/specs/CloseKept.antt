-- Close keeps a machine sound: its regions removed, none pinned, the process has none left and its row is free.
use Rattle.std.specs.Prelude.{◌≡◌, refl, ◌⊎◌, ◌≢◌, Bool, true, false, cond, ℕ, ◌≤◌, ◌<◌, length, get_or, set, ltb}
use Rattle.std.proofs.Math.Path.{ap, sym}
use Rattle.std.proofs.Common.{subst, ◌∙◌, inl, inr, get_or-set_same, get_or-set_other}
use mathlib.Core.List.{List, [], ◌∷◌}
use native.Mathlib.Omega.{arith}
use Rattle.std.proofs.Math.Decide.{ℕ_discrete}
use Rattle.std.proofs.Math.ListN.{length-take}
use Rattle.std.proofs.Math.Seq.{set_out}
use borrow.Author.Tests.{ltb-true, ltb-false}
use Rattle.model.specs.declared.Region.{Region}
use Rattle.laws.specs.Lists.{part, each}
use Rattle.model.specs.Machine.{Machine, State, with_order, with_mapped, process_at, region_at, row_of, order_of, mapped_of, no_process, no_region, no_mapping}
use Rattle.model.specs.Lookup.{is_pinned, regions_of, is_ranged}
use Rattle.model.specs.Paging.{unmap_from}
use Rattle.model.specs.Backing.{let_go}
use Rattle.model.specs.Remove.{frames_of, pin_stands, remove_region, clear_regions, close_process, drop_region}
use Rattle.model.specs.Refusals.{close_refusals}
use Rattle.model.specs.Calls as calls
use Rattle.model.specs.Run.{Call, call, step}
use Rattle.model.specs.Sound.{Sound}
use Rattle.model.specs.MachineLaws.{books_let_go}
use Rattle.laws.specs.In.{In, Once}
use Rattle.laws.specs.InLaws.{in_at}
use Rattle.laws.specs.InListsLaws.{any_false, without, in_without}
use Rattle.laws.specs.ListsLaws.{part_at, part_length}
use Rattle.keeping.specs.Owing.{Owing, nothing}
use Rattle.keeping.specs.OwingLaws.{open_low, slot_pinned}
use Rattle.keeping.specs.ProcessesKept.{process_kept}
use Rattle.keeping.specs.GuardedKept.{guarded_kept}
use Rattle.keeping.specs.ArgumentLaws.{open_by_test}
use Rattle.keeping.specs.CoreKept.{Lends, machine_kept}
use Rattle.keeping.specs.DropKept.{gone_books}
use Rattle.keeping.specs.RemovalKept.{remove_core, remove_order, still_listed, clear_core, clear_lends}

-- the region rows that dropping and removing leave
drop_regions : (m : Machine) (p t : ℕ) → (drop_region m p t).regions ≡ set m.regions (row_of p t) no_region
unfolding drop_region
drop_regions m p t = go (is_ranged (region_at m p t))
  where
    fs : List ℕ
    fs = frames_of m.entries (row_of p t)

    go : (b : Bool)
        → set (cond b (let_go (each (λ f n. let_go n f) fs m) (region_at m p t).range.0) (each (λ f n. let_go n f) fs m)).regions (row_of p t) no_region ≡ set
        m.regions (row_of p t) no_region
    go true = ap (λ l. set l (row_of p t) no_region) ((books_let_go (each (λ f n. let_go n f) fs m) (region_at m p t).range.0).regions ∙ (gone_books fs m).regions)
    go false = ap (λ l. set l (row_of p t) no_region) (gone_books fs m).regions

-- no region of a process has a pin
abbrev Unpinned : Machine → ℕ → Type 0
Unpinned m p = (t : ℕ) → t < 64 → (region_at m p t).pins ≡ 0

set_unpinned : (l : List Region) (i j : ℕ) → (get_or l j no_region).pins ≡ 0 → (get_or (set l i no_region) j no_region).pins ≡ 0
set_unpinned l i j e = go (ℕ_discrete j i) (ltb i (length l)) refl
  where
    go : Dec (j ≡ i) → (b : Bool) → ltb i (length l) ≡ b → (get_or (set l i no_region) j no_region).pins ≡ 0
    go (no z) b q = ap (λ (r : Region). r.pins) (get_or-set_other l i j no_region no_region z) ∙ e
    go (yes z) true q = ap (λ (k : ℕ). (get_or (set l i no_region) k no_region).pins) z
        ∙ ap (λ (r : Region). r.pins) (get_or-set_same l i no_region no_region (ltb-true i (length l) q))
    go (yes z) false q = ap (λ k. (get_or k j no_region).pins) (set_out l i no_region (ltb-false i (length l) q)) ∙ e

remove_unpinned : (m : Machine) (p t : ℕ) → Unpinned m p → Unpinned (remove_region m p t) p
unfolding remove_region with_order unmap_from with_mapped
remove_unpinned m p t u = go (is_pinned (region_at m p t))
  where
    out : Machine
    out = with_order (unmap_from m p (region_at m p t)) p (without t (order_of m p))

    go : (b : Bool) → Unpinned (cond b out (drop_region out p t)) p
    go true = u
    go false = λ s h. ap (λ l. (get_or l (row_of p s) no_region).pins) (drop_regions out p t) ∙ set_unpinned m.regions (row_of p t) (row_of p s) (u s h)

module _ (d : ℕ → ℕ) (p : ℕ) where
  -- what a cleared list leaves: none of those that were removed
  cleared : (l : List ℕ) (m : Machine) → Owing d m → Once l → ((t : ℕ) → In t l → In t (order_of m p)) → Unpinned m p
      → (Unpinned (each (λ s n. remove_region n p s) l m) p) × ((t : ℕ) → In t (order_of (each (λ s n. remove_region n p s) l m) p)
      → In t (order_of m p) × (In t l → ⊥))
  unfolding each
  cleared [] m o once listed u = (u, λ t i. (i, λ k. k))
  cleared (s ∷ l) m o once listed u =
      let here = listed s (inl refl) in
      let still = still_listed d m o p s here l once.0 (λ t i. listed t (inr i)) in
      let rest = cleared l (remove_region m p s) (remove_core d m o p s here) once.1 still (remove_unpinned m p s u) in
      (rest.0, λ t i. left t (rest.1 t i))
    where
      gone : (t : ℕ) → (In t l → ⊥) → t ≢ s → In t (s ∷ l) → ⊥
      gone t a b (inl e) = b e
      gone t a b (inr i) = a i

      left : (t : ℕ) → In t (order_of (remove_region m p s) p) × (In t l → ⊥) → In t (order_of m p) × (In t (s ∷ l) → ⊥)
      left t k =
          let before = in_without s t (order_of m p) (subst (λ y. In t y) (remove_order d m o p s (listed s (inl refl))) k.0) in
          (before.0, gone t k.1 before.1)

module _ (d : ℕ → ℕ) (m : Machine) (o : Owing d m) (p : ℕ) (low : p < 8) (stands : pin_stands m p ≡ false) where
  unpinned : Unpinned m p
  unfolding pin_stands
  unpinned t h =
      let size = o.sizes.regions in
      let few = part_length m.regions 64 p (omega arith) in
      let e = any_false is_pinned (get_or (regions_of m p) t no_region) (regions_of m p) stands (in_at no_region (regions_of m p) t (omega arith)) in
      let k = ltb-false 0 (get_or (regions_of m p) t no_region).pins e in
      let same = ap (λ (r : Region). r.pins) (part_at m.regions 64 p t no_region h) in
      omega arith

  -- with its regions removed
  abbrev emptied : Machine
  emptied = clear_regions m p

  owing : Owing d emptied
  owing = clear_core d p m o low

  nothing_listed : (t : ℕ) → In t (order_of emptied p) → ⊥
  unfolding clear_regions
  nothing_listed t i = let k = (cleared d p (order_of m p) m o (o.once p low) (λ t i. i) unpinned).1 t i in k.1 k.0

  no_pins : Unpinned emptied p
  unfolding clear_regions
  no_pins = (cleared d p (order_of m p) m o (o.once p low) (λ t i. i) unpinned).0

  none_attached : 0 ≡ (process_at emptied p).attached
  unfolding order_of
  none_attached = go (ℕ_discrete (process_at emptied p).attached 0)
    where
      go : Dec ((process_at emptied p).attached ≡ 0) → 0 ≡ (process_at emptied p).attached
      go (yes z) = sym z
      go (no z) =
          let size = owing.sizes.order in
          let few = part_length emptied.order 64 p (omega arith) in
          let long = length-take (process_at emptied p).attached (part 64 p emptied.order) in
          absurd (nothing_listed _ (in_at 0 (order_of emptied p) 0 (omega (arith, z))))

  none_mapped : 0 ≡ (process_at emptied p).mapped
  unfolding mapped_of
  none_mapped = go (ℕ_discrete (process_at emptied p).mapped 0)
    where
      go : Dec ((process_at emptied p).mapped ≡ 0) → 0 ≡ (process_at emptied p).mapped
      go (yes z) = sym z
      go (no z) =
          let size = owing.sizes.mapped in
          let few = part_length emptied.mapped 128 p (omega arith) in
          let long = length-take (process_at emptied p).mapped (part 128 p emptied.mapped) in
          let k = owing.mapped p low _ (in_at no_mapping (mapped_of emptied p) 0 (omega (arith, z))) in
          absurd (nothing_listed k.slot k.listed)

  no_region_left : (t : ℕ) → t < 64 → (region_at emptied p t).kind ≡ 0
  no_region_left t h = go (ℕ_discrete (region_at emptied p t).kind 0)
    where
      out : In t (order_of emptied p) ⊎ (1 ≤ (region_at emptied p t).pins) → (region_at emptied p t).kind ≡ 0
      out (inl i) = absurd (nothing_listed t i)
      out (inr i) = let z = no_pins t h in absurd (omega arith)

      go : Dec ((region_at emptied p t).kind ≡ 0) → (region_at emptied p t).kind ≡ 0
      go (yes z) = z
      go (no z) = out (slot_pinned emptied owing p t h z)

  pub close_core : Owing d (close_process m p)
  unfolding close_process
  close_core =
      process_kept d emptied owing p low no_process none_attached none_mapped
      (record { aligned_start = refl; aligned_size = refl; user_start = omega arith; user_last = omega arith; attached = omega arith; mapped = omega arith })
      (λ u. (refl, no_region_left))

close_lends : (m : Machine) (p : ℕ) → Lends m (close_process m p)
unfolding close_process
close_lends m p = let k = clear_lends p m in record { files = k.files; file_count = k.file_count; frame_count = k.frame_count }

pub close_kept : (s : State) → Sound s → (p : ℕ) → Sound (step (Call.close p) s)
unfolding step call calls.close close_refusals
close_kept s sound p =
    guarded_kept s _ _ _ sound (λ k. machine_kept s _ sound (close_lends s.machine p)
    (λ o. close_core nothing s.machine o p (open_low s.machine o p (open_by_test s.machine p k.0)) k.1.0))
