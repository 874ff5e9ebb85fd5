-- Laws of `Removed`: a region removed: unmapped, detached, and dropped unless it is pinned.
use Rattle.std.specs.Prelude.{◌≡◌, refl, Bool, List, ℕ, ◌*◌, ◌≤◌, ◌<◌, length, get_or, take}
use Rattle.std.proofs.Math.Path.{ap, sym}
use Rattle.std.proofs.Common.{subst, ◌∙◌, length-set, get_or-set_same}
use Rattle.std.proofs.Math.Bool.{true, false, cond}
use Rattle.std.proofs.Math.ListN.{drop}
use borrow.Author.Tests.{lt-ltb, le-ltb}
use Rattle.model.specs.declared.Process.{Process}
use Rattle.model.specs.declared.Region.{Region}
use Rattle.model.specs.declared.Mapping.{Mapping}
use Rattle.laws.specs.Lists.{part, keep}
use Rattle.laws.specs.Tests.{Rows}
use Rattle.model.specs.Machine.{Machine, State, process_at, order_of, mapped_of, with_order, with_mapped, attached_of, no_process, no_mapping, region_at, row_of}
use Rattle.model.specs.Lookup.{is_ranged, is_pinned}
use Rattle.model.specs.Paging.{unmap_from}
use Rattle.model.specs.Backing.{let_go}
use Rattle.model.specs.Sound.{Sound}
use Rattle.model.specs.Remove.{frames_of, drop_region, remove_region}
use Rattle.model.specs.MachineLaws.{books_let_go, order_mapped, order_put}
use Rattle.paging.specs.Mapper.{unmap_from_by}
use Rattle.paging.specs.Order.{Rising}
use Rattle.paging.specs.WellPaged.{WellPaged}
use Rattle.paging.specs.MapperLaws.{well_paged, unmap_from_law}
use Rattle.paging.specs.KeepLaws.{unmap_from_keeps}
use Rattle.regions.specs.Detached.{other}
use Rattle.remove.specs.AccountedLaws.{accounted_same, sound_accounted}
use Rattle.remove.specs.Dropped.{all_gone}
use Rattle.remove.specs.DroppedLaws.{gone_books}
use Rattle.remove.specs.SlotDropped.{Dropped}
use Rattle.remove.specs.Removed.{Removable, Removed}

pub sound_removable : (s : State) (p : ℕ) → Sound s → p < 8 → Removable s.machine p
sound_removable s p sound h = record { accounted = sound_accounted s sound; paged = well_paged s p sound h }

-- ---- what a drop leaves alone

pub record Undropped (m n : Machine) : Type 0 where
  pub processes : n.processes ≡ m.processes
  pub order : n.order ≡ m.order
  pub mapped : n.mapped ≡ m.mapped

pub drop_leaves : (m : Machine) (p s : ℕ) → Undropped m (drop_region m p s)
unfolding drop_region
drop_leaves m p s = let k = go (is_ranged (region_at m p s)) in record { processes = k.processes; order = k.order; mapped = k.mapped }
  where
    pages : Machine
    pages = all_gone (frames_of m.entries (row_of p s)) m

    range : ℕ
    range = (region_at m p s).range.0

    go : (b : Bool) → Undropped m (cond b (let_go pages range) pages)
    go true =
        let k = books_let_go pages range in
        let all = gone_books m (frames_of m.entries (row_of p s)) in
        record { processes = k.processes ∙ all.processes; order = k.order ∙ all.order; mapped = k.mapped ∙ all.mapped }
    go false = let all = gone_books m (frames_of m.entries (row_of p s)) in record { processes = all.processes; order = all.order; mapped = all.mapped }

-- ---- page tables and holders, where other tables change

paged_same : (m n : Machine) (p : ℕ) → (process_at n p).mapped ≡ (process_at m p).mapped → n.mapped ≡ m.mapped → WellPaged m p → WellPaged n p
unfolding mapped_of
paged_same m n p c e w =
    record {
      process = w.process;
      table = ap (λ (t : List Mapping). length t) e ∙ w.table;
      few = subst (λ (k : ℕ). k ≤ 128) (sym c) w.few;
      paged = record { rising = subst Rising (sym rows) w.paged.rising; free = subst (λ (t : List Mapping). Rows no_mapping t (λ i x. x ≡ no_mapping)) (sym past) w.paged.free };
    }
  where
    rows : take (process_at n p).mapped (part 128 p n.mapped) ≡ take (process_at m p).mapped (part 128 p m.mapped)
    rows = λ t. take (c t) (part 128 p (e t))

    past : drop (process_at n p).mapped (part 128 p n.mapped) ≡ drop (process_at m p).mapped (part 128 p m.mapped)
    past = λ t. drop (c t) (part 128 p (e t))

unmapped_removable : (m : Machine) (p : ℕ) (r : Region) → p < length m.processes → Removable m p → Removable (unmap_from m p r) p
unfolding unmap_from with_mapped
unmapped_removable m p r there k = record { accounted = accounted_same m (unmap_from m p r) (record { regions = refl; entries = refl; backings = refl; pool = refl; frame_count = refl }) k.accounted; paged = unmap_from_keeps m p k.paged there r }

detached_removable : (m : Machine) (p : ℕ) (l : List ℕ) → p < length m.processes → Removable m p → Removable (with_order m p l) p
unfolding with_order
detached_removable m p l there k = record { accounted = accounted_same m (with_order m p l) (record { regions = refl; entries = refl; backings = refl; pool = refl; frame_count = refl }) k.accounted; paged = paged_same m (with_order m p l) p (ap (λ (q : Process). q.mapped) (get_or-set_same m.processes p (attached_of (process_at m p) (length l)) no_process there)) refl k.paged }

dropped_removable : (m : Machine) (p s : ℕ) (n : Machine) → Dropped m p s n → Removable m p → Removable n p
dropped_removable m p s n drop k =
    let d = drop k.accounted in
    let u = drop_leaves m p s in
    let is = d.1 in
    record { accounted = d.0; paged = paged_same m n p (ap (λ (x : Machine). (process_at x p).mapped) is ∙ ap (λ t. (get_or t p no_process).mapped) u.processes) (ap (λ (x : Machine). x.mapped) is ∙ u.mapped) k.paged }

-- unmapped and detached
abbrev taken : Machine → ℕ → ℕ → Machine
taken m p s = with_order (unmap_from m p (region_at m p s)) p (keep (other s) (order_of m p))

unmapped_order : (m : Machine) (p : ℕ) (r : Region) → order_of (unmap_from m p r) p ≡ order_of m p
unfolding unmap_from
unmapped_order m p r = order_mapped m p p _

unmapped_processes : (m : Machine) (p : ℕ) (r : Region) → length (unmap_from m p r).processes ≡ length m.processes
unfolding unmap_from with_mapped
unmapped_processes m p r = length-set m.processes p _

unmapped_places : (m : Machine) (p : ℕ) (r : Region) → (unmap_from m p r).order ≡ m.order
unfolding unmap_from with_mapped
unmapped_places m p r = refl

module _ (m : Machine) (p s : ℕ) (there : p < length m.processes) (r : Region) (read : r ≡ region_at m p s) (a : Machine) (unmaps : a ≡ unmap_from_by m p r) (b : Machine) (detaches : b ≡ with_order a p (keep (other s) (order_of a p))) where
  out_is : Removable m p → b ≡ taken m p s
  out_is k =
      let is : a ≡ unmap_from m p (region_at m p s) = unmaps ∙ ap (λ (x : Region). unmap_from_by m p x) read ∙ unmap_from_law m p k.paged (region_at m p s) in
      detaches ∙ ap (λ (x : Machine). with_order x p (keep (other s) (order_of x p))) is ∙ ap (λ l. with_order (unmap_from m p (region_at m p s)) p (keep (other s) l)) (unmapped_order m p (region_at m p s))

  out_removable : Removable m p → Removable b p
  out_removable k = subst (λ (x : Machine). Removable x p) (sym (out_is k)) (detached_removable (unmap_from m p (region_at m p s)) p (keep (other s) (order_of m p)) (rw unmapped_processes there) (unmapped_removable m p (region_at m p s) there k))

  pub pinned_stays : 0 < r.pins → Removed m p s b
  unfolding remove_region
  pinned_stays h k = (out_removable k, out_is k ∙ sym (ap (λ (t : Bool). cond t (taken m p s) (drop_region (taken m p s) p s)) pinned))
    where
      pinned : is_pinned (region_at m p s) ≡ true
      pinned = ap (λ (x : Region). is_pinned x) (sym read) ∙ lt-ltb 0 r.pins h

  pub unpinned_drops : r.pins ≤ 0 → (n : Machine) → Dropped b p s n → Removed m p s n
  unfolding remove_region
  unpinned_drops h n drop k = (
    dropped_removable b p s n drop (out_removable k),
    (drop (out_removable k).accounted).1 ∙ ap (λ (x : Machine). drop_region x p s) (out_is k) ∙ sym (ap (λ (t : Bool). cond t (taken m p s) (drop_region (taken m p s) p s)) unpinned),
  )
    where
      unpinned : is_pinned (region_at m p s) ≡ false
      unpinned = ap (λ (x : Region). is_pinned x) (sym read) ∙ le-ltb 0 r.pins h

-- ---- the list afterwards

drop_order : (m : Machine) (p s : ℕ) → order_of (drop_region m p s) p ≡ order_of m p
unfolding order_of
drop_order m p s = let u = drop_leaves m p s in λ t. take (get_or (u.processes t) p no_process).attached (part 64 p (u.order t))

pub removed_order : (m : Machine) (p s : ℕ) → p < length m.processes → p * 64 ≤ length m.order → length (keep (other s) (order_of m p)) ≤ 64 → order_of (remove_region m p s) p ≡ keep (other s) (order_of m p)
unfolding remove_region
removed_order m p s there room few = go (is_pinned (region_at m p s))
  where
    put : order_of (taken m p s) p ≡ keep (other s) (order_of m p)
    put = order_put (unmap_from m p (region_at m p s)) p (rw unmapped_processes there) (keep (other s) (order_of m p)) (subst (λ (t : List ℕ). p * 64 ≤ length t) (sym (unmapped_places m p (region_at m p s))) room) few

    go : (b : Bool) → order_of (cond b (taken m p s) (drop_region (taken m p s) p s)) p ≡ keep (other s) (order_of m p)
    go true = put
    go false = drop_order (taken m p s) p s ∙ put
