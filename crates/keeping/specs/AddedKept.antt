-- A region added: put into the lowest free slot with a pin, listed last, its pin taken off.
use Rattle.std.specs.Prelude.{◌≡◌, refl, ◌⊎◌, ◌≢◌, false, not, List, [], ◌∷◌, ◌++◌, ℕ, ◌/◌, ◌%◌, ◌≤◌, ◌<◌, length, get_or, eqb}
use Rattle.std.proofs.Math.Path.{ap, subst}
use Rattle.std.proofs.Common.{sym, ◌∙◌, arith, get_or-set_same, set-set, eqb-true}
use Rattle.std.proofs.Math.Logic.{inl, inr}
use Rattle.std.proofs.Math.ListN.{set}
use Rattle.std.proofs.Math.Seq.{get_or-set_other}
use Rattle.model.specs.declared.Region.{Region}
use Rattle.model.specs.Machine.{Machine, with_region, with_regions, with_order, process_at, region_at, row_of, order_of, no_region}
use Rattle.model.specs.Lookup.{free_slot, row_found, is_found, regions_of}
use Rattle.model.specs.Create.{add_region}
use Rattle.model.specs.Pins.{with_pins}
use Rattle.model.specs.Sound.{Used, Apart, Limits, Hold}
use Rattle.laws.specs.In.{In, Once}
use Rattle.laws.specs.InLaws.{in_left, in_right, in_either, once_last}
use Rattle.laws.specs.InListsLaws.{few_below}
use Rattle.laws.specs.ListsLaws.{part_at, part_length}
use Rattle.model.specs.FoundRowLaws.{first_found}
use Rattle.keeping.specs.Owing.{row_at, Owing, Holds}
use Rattle.model.specs.Holders.{range_hold}
use Rattle.keeping.specs.OwingLaws.{open_low, listed_row, slot_pinned}
use Rattle.keeping.specs.AlikeLaws.{limits_pins}
use Rattle.keeping.specs.SlotsKept.{owes, slot_put}
use Rattle.keeping.specs.OrderKept.{order_reads, order_other, opened_same, order_kept}
use Rattle.model.specs.FoundRowLaws.{found_row}
use Rattle.keeping.specs.PinKept.{pins_kept}

-- the lowest free slot is one of the 64, and free
pub free_slot_found : (d : ℕ → ℕ) (m : Machine) → Owing d m → (p : ℕ) → p < 8 → not (is_found (free_slot m p)) ≡ false
    → (row_found (free_slot m p) < 64) × ((region_at m p (row_found (free_slot m p))).kind ≡ 0)
unfolding free_slot
free_slot_found d m o p h e =
    let t : ℕ = row_found (free_slot m p) in
    let k = first_found (λ r. eqb r.kind 0) (regions_of m p) t no_region (found_row (free_slot m p) e) in
    let size = o.sizes.regions in
    let few = part_length m.regions 64 p (omega arith) in
    let inside = k.0 in
    let low : t < 64 = omega arith in
    (low, ap (λ (r : Region). r.kind) (sym (part_at m.regions 64 p t no_region low)) ∙ eqb-true (get_or (regions_of m p) t no_region).kind 0 k.1)

-- what a region that is added takes: an open process, a slot left, limits kept, apart from every region there, one page with every other holder of its range
pub record Added (m : Machine) (p : ℕ) (r : Region) : Type 0 where
  pub opened : (process_at m p).opened ≡ 1
  pub slot : not (is_found (free_slot m p)) ≡ false
  pub unpinned : with_pins r 0 ≡ r
  pub used : Used r
  pub fits : Limits m r
  pub apart : (t : ℕ) → t < 64 → Used (region_at m p t) → Apart r (region_at m p t)
  pub agree : r.ranged ≡ 1 → (h : Hold) → Holds m h → h.frame ≡ r.range.0 → (h.page ≡ r.start.0 / 4096) × (h.shared ≡ (range_hold r).shared)

module _ (d : ℕ → ℕ) (m : Machine) (p : ℕ) (r : Region) (o : Owing (owes r d) m) (new : Added m p r) where
  abbrev t : ℕ
  t = row_found (free_slot m p)

  abbrev row : ℕ
  row = row_of p t

  low : p < 8
  low = open_low m o p new.opened

  is : (t < 64) × ((region_at m p t).kind ≡ 0)
  is = free_slot_found (owes r d) m o p low new.slot

  inside : row < length m.regions
  inside = let a = o.sizes.regions in let b = is.0 in let c = low in omega arith

  quotient : row / 64 ≡ p
  quotient = let b = is.0 in omega arith

  -- pinned, in its slot
  abbrev put : Machine
  put = with_region m p t (with_pins r 1)

  put_owing : Owing d put
  put_owing = slot_put d m row (with_pins r 1) o (record {
    inside = inside;
    free = is.1;
    used = new.used;
    pinned = omega arith;
    fits = record { free = λ z. absurd (new.used z); used = λ u. limits_pins m r 1 (omega arith) new.fits };
    opened = subst (λ (q : ℕ). (process_at m q).opened ≡ 1) (sym quotient) new.opened;
    apart = λ j z e u. let b = quotient in let same : row_of p (j % 64) ≡ j = omega arith in
        subst (λ (i : ℕ). Used (row_at m i) → Apart r (row_at m i)) same (new.apart (j % 64) (omega arith)) u;
    agree = new.agree;
  })

  put_row : region_at put p t ≡ with_pins r 1
  put_row = get_or-set_same m.regions row (with_pins r 1) no_region inside

  -- listed last
  abbrev list : List ℕ
  list = order_of m p ++ (t ∷ [])

  new_slot : In t (order_of m p) → ⊥
  new_slot i = (o.listed p t low i).1 is.1

  list_once : Once list
  list_once = once_last t (order_of m p) (o.once p low) new_slot

  list_used : (s : ℕ) → In s list → (s < 64) × Used (region_at put p s)
  unfolding order_of
  list_used s i = go (in_either s (order_of m p) (t ∷ []) i)
    where
      go : In s (order_of m p) ⊎ In s (t ∷ []) → (s < 64) × Used (region_at put p s)
      go (inl k) = put_owing.listed p s low k
      go (inr (inl e)) = (
        subst (λ (j : ℕ). j < 64) (sym e) is.0,
        subst (λ (j : ℕ). Used (region_at put p j)) (sym e) (subst (λ (x : Region). Used x) (sym put_row) new.used),
      )
      go (inr (inr k)) = absurd k

  list_few : length list ≤ 64
  list_few = few_below 64 list list_once (λ s i. (list_used s i).0)

  list_pinned : (s : ℕ) → s < 64 → Used (region_at put p s) → In s list ⊎ (1 ≤ (region_at put p s).pins)
  unfolding order_of
  list_pinned s h u = go (slot_pinned put put_owing p s h u)
    where
      go : In s (order_of put p) ⊎ (1 ≤ (region_at put p s).pins) → In s list ⊎ (1 ≤ (region_at put p s).pins)
      go (inl i) = inl (in_left s (order_of m p) (t ∷ []) i)
      go (inr i) = inr i

  -- listed last: both
  abbrev known : Machine
  known = with_order put p list

  known_owing : Owing d known
  unfolding order_of
  known_owing =
      order_kept d put put_owing p new.opened list list_few list_once list_used list_pinned (λ x i k. in_left k.slot (order_of m p) (t ∷ []) k.listed)

  known_order : order_of known p ≡ list
  known_order = order_reads d put put_owing p new.opened list list_few

  known_row : region_at known p t ≡ with_pins r 1
  unfolding with_order
  known_row = put_row

  -- its pin taken off
  pub added_kept : Owing d (add_region m p r)
  unfolding add_region with_order
  added_kept =
      subst (Owing d) shape (pins_kept d known known_owing p t 0 (subst (λ (x : Region). Used x) (sym known_row) new.used) (omega arith)
      (inl (listed_row known p t is.0 (subst (λ l. In t l) (sym known_order) (in_right t (order_of m p) (t ∷ []) (inl refl))))))
    where
      shape : with_region known p t (with_pins (region_at known p t) 0) ≡ with_order (with_region m p t r) p list
      shape =
          ap (λ (x : Region). with_region known p t (with_pins x 0)) known_row
          ∙ ap (λ l. with_regions known l) (set-set m.regions row (with_pins r 1) (with_pins r 0) ∙ ap (λ (x : Region). set m.regions row x) new.unpinned)

  -- what else it leaves
  pub added_order : order_of (add_region m p r) p ≡ order_of m p ++ (t ∷ [])
  unfolding add_region with_order order_of
  added_order = known_order

  -- other processes' lists stay
  pub added_other : (q : ℕ) → q ≢ p → order_of (add_region m p r) q ≡ order_of m q
  unfolding add_region with_order order_of
  added_other q z = order_other d put put_owing p new.opened list q z

  -- and so do open processes
  pub added_opened : (q : ℕ) → (process_at (add_region m p r) q).opened ≡ (process_at m q).opened
  unfolding add_region with_order order_of
  added_opened q = opened_same d put put_owing p new.opened list q

  -- and regions in use
  pub added_row : (q s : ℕ) → Used (region_at m q s) → region_at (add_region m p r) q s ≡ region_at m q s
  unfolding add_region with_order
  added_row q s u = get_or-set_other m.regions row (row_of q s) r no_region (λ z. u (ap (λ (j : ℕ). (row_at m j).kind) z ∙ is.1))
