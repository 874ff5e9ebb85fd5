-- Entries left, one put, and what that leaves of the pool.
use Rattle.std.specs.Prelude.{◌≡◌, ◌≢◌, true, List, ℕ, ◌+◌, ◌-◌, ◌^◌, ◌≤◌, ◌<◌, get_or, leb, ltb}
use Rattle.std.proofs.Common.{arith, ltb-true}
use Rattle.std.proofs.lemmas.Bool.{not-false}
use Rattle.laws.specs.BoolLaws.{both_true}
use Rattle.model.specs.declared.Entry.{Entry}
use Rattle.model.specs.declared.Region.{Region}
use Rattle.model.specs.Machine.{Machine, with_entries, no_entry, no_region}
use Rattle.model.specs.Lookup.{is_found, row_found, free_entry, free_entries, contains, span_end}
use Rattle.model.specs.Paging.{page_start}
use Rattle.model.specs.Backing.{add_entry}
use Rattle.model.specs.Sound.{R2}
use Rattle.backing.specs.Ready.{Ready}
use Rattle.clone_pages.specs.Alike.{Alike}
use Rattle.clone_pages.specs.AlikeLaws.{alike_set}
use Rattle.keeping.specs.Owing.{Owing, nothing}
use Rattle.keeping.specs.ClonePagesLaws.{entries_fewer, entry_left}
use Rattle.keeping.specs.EntriesKept.{free_row}

pub entry_found : (m : Machine) → 1 ≤ free_entries m → is_found (free_entry m) ≡ true
entry_found m h = not-false _ (entry_left m h)

-- the page of an entry lies in a region, so there is one after it
pub page_next : (m : Machine) → Owing nothing m → (j : ℕ) → (get_or m.entries j no_entry).owner ≢ 0 → (get_or m.entries j no_entry).page.0 + 1 < 2 ^ 64
page_next m o j used =
    let e = (o.entries j).used used in
    let row = (get_or m.entries j no_entry).owner - 1 in
    let end = ((o.regions row).used e.used).user_segment in
    let below = in_span (get_or m.regions row no_region) (page_start (get_or m.entries j no_entry).page.0) e.inside in
    omega arith
  where
    in_span : (r : Region) (a : ℕ) → contains r a ≡ true → a < span_end r
    in_span r a t = ltb-true a (span_end r) (both_true (leb r.start.0 a) (ltb a (span_end r)) t).1

-- other entries, and the pool is as right as it was
pub ready_entries : (m : Machine) (t : List Entry) → Ready m → Ready (with_entries m t)
ready_entries m t k = record { r2 = record { apart = r2.apart; within = r2.within; free = r2.free; next = r2.next }; rows = k.rows; few = k.few }
  where
    r2 : R2 m
    r2 = k.r2

-- one entry more: one row less is free, and for another region nothing changes
module _ (m : Machine) (row page f : ℕ) (some : 1 ≤ free_entries m) where
  pub added_fewer : free_entries (add_entry m row page f) + 1 ≡ free_entries m
  unfolding add_entry free_entries free_entry
  added_fewer =
      let at = free_row m (entry_left m some) in
      entries_fewer m (row_found (free_entry m)) (record { owner = row + 1; page = record { 0 = page }; frame = record { 0 = f } }) at.0 at.1 (λ z. omega arith)

  pub added_alike : (t : List Entry) (src : ℕ) → src ≢ row → Alike t m.entries src → Alike t (add_entry m row page f).entries src
  unfolding add_entry
  added_alike t src other k =
      let at = free_row m (entry_left m some) in
      let free = at.1 in
      alike_set t m.entries src k (row_found (free_entry m)) (record { owner = row + 1; page = record { 0 = page }; frame = record { 0 = f } }) at.0 (λ z. omega arith) (λ z. other (omega arith))
