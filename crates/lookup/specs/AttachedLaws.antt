-- Laws of `Attached`: a process's attached regions, in list order: how many there are, which slot stands where, and the search for one at an address.
use Rattle.std.specs.Prelude.{◌≡◌, refl, Bool, true, false, cond, List, ℕ, ◌+◌, ◌-◌, ◌*◌, ◌≤◌, ◌<◌, get_or, take, ltb, Option, Some, None}
use Rattle.std.proofs.Math.Path.{ap, sym}
use Rattle.std.proofs.Common.{min, length-take, ◌∙◌, ltb-true, ltb-false, lt-ltb, le-ltb, le-leb}
use native.Mathlib.Omega.{arith}
use Rattle.std.proofs.Math.ListN.{length, get_or-eq_default}
use Rattle.model.specs.declared.Process.{Process}
use Rattle.model.specs.declared.Region.{Region}
use Rattle.laws.specs.Loops.{Remains}
use Rattle.laws.specs.LoopLaws.{loop_found, loop_more, loop_none}
use Rattle.laws.specs.Lists.{part}
use Rattle.model.specs.Layout.{machine}
use Rattle.model.specs.Machine.{Machine, no_process, no_region, region_at, order_of}
use Rattle.model.specs.Lookup.{first_slot, contains}
use Rattle.laws.specs.ListsLaws.{part_length, part_at}
use Rattle.lookup.specs.LookupsLaws.{regions_length, order_length}
use Rattle.laws.specs.FirstRowsLaws.{taken_at}

-- whether the region in a slot of a process holds an address
abbrev pub holds_at : Machine → ℕ → ℕ → ℕ → Bool
holds_at m p a s = contains (region_at m p s) a

-- whether a region holds an address, with no sum that could be too large
pub contains_past : (r : Region) (a : ℕ) → r.start.0 ≤ a → ltb (a - r.start.0) r.size ≡ contains r a
contains_past r a h = rw (le-leb r.start.0 a h) (go (ltb a (r.start.0 + r.size)) refl)
  where
    go : (b : Bool) → ltb a (r.start.0 + r.size) ≡ b → ltb (a - r.start.0) r.size ≡ ltb a (r.start.0 + r.size)
    go true e = let l = ltb-true a (r.start.0 + r.size) e in lt-ltb (a - r.start.0) r.size (omega arith) ∙ sym e
    go false e = let l = ltb-false a (r.start.0 + r.size) e in le-ltb (a - r.start.0) r.size (omega arith) ∙ sym e

-- past the last row there is no region, and so no address in it
pub contains_no_row : (w : List ℕ) (p s a : ℕ) → 512 ≤ p * 64 + s → false ≡ contains (region_at (machine w) p s) a
contains_no_row w p s a h = none ∙ ap (λ r. contains r a) (sym (get_or-eq_default (machine w).regions no_region {n = p * 64 + s} (rw regions_length h)))
  where
    none : false ≡ contains no_region a
    none = sym (le-ltb (a - 0) 0 (omega arith)) ∙ contains_past no_region a (omega arith)

pub places_length : (w : List ℕ) (p : ℕ) → p < 8 → length (part 64 p (machine w).order) ≡ 64
places_length w p h = part_length (machine w).order 64 p (rw order_length (omega arith))

module _ (w : List ℕ) (p : ℕ) (h : p < 8) (q : Process) (read : q ≡ get_or (machine w).processes p no_process) where
  pub attached_min : (r : ℕ) → r ≡ min q.attached 64 → r ≡ length (order_of (machine w) p)
  unfolding order_of
  attached_min r e =
      e
      ∙ ap (λ (n : ℕ). min q.attached n) (sym (places_length w p h))
      ∙ sym (length-take q.attached (part 64 p (machine w).order))
      ∙ ap (λ (x : Process). length (take x.attached (part 64 p (machine w).order))) read

-- the slot at place i of list order
pub order_slot :
    (w : List ℕ) (p n : ℕ)
    → n ≡ length (order_of (machine w) p)
    → n ≤ 64
    → (i s : ℕ)
    → i < n
    → s ≡ get_or (machine w).order (p * 64 + i) 0
    → s ≡ get_or (order_of (machine w) p) i 0
unfolding order_of
order_slot w p n c l i s h e =
    e ∙ sym (taken_at (get_or (machine w).processes p no_process).attached (part 64 p (machine w).order) i 0 (rw c at h) ∙ part_at (machine w).order 64 p i 0 (omega arith))

-- a search that has passed i of a list of slots has only the rest to look at
abbrev pub Looked : (ℕ → Bool) → List ℕ → ℕ → Type 0
Looked f l i = (i ≤ length l) × Remains (first_slot f) l i (first_slot f l)

module _ (f : ℕ → Bool) (l : List ℕ) (n : ℕ) (sized : n ≡ length l) (i : ℕ) (s : Looked f l i) where
  -- slot x is the first, or those past it say
  abbrev slot_by : Bool → ℕ → List ℕ → Option ℕ
  slot_by b x t = cond b (Some x) (first_slot f t)

  pub look_found : i < n → (x : ℕ) → x ≡ get_or l i 0 → f x ≡ true → Some x ≡ first_slot f l
  unfolding first_slot
  look_found h x e p = loop_found (first_slot f) l i (first_slot f l) s.1 (omega arith) 0 x e (Some x) (λ t. ap (λ (b : Bool). slot_by b x t) p)

  pub look_more : i < n → (x : ℕ) → x ≡ get_or l i 0 → f x ≡ false → Looked f l (i + 1)
  unfolding first_slot
  look_more h x e p = (omega arith, loop_more (first_slot f) l i (first_slot f l) s.1 (omega arith) 0 x e (first_slot f) (λ t. ap (λ (b : Bool). slot_by b x t) p))

  pub look_all : n ≤ i → None ≡ first_slot f l
  unfolding first_slot
  look_all h = loop_none (first_slot f) l i (first_slot f l) s.1 (omega arith)
