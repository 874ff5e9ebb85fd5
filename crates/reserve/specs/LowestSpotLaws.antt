-- Laws of `LowestSpot`: the lowest free start of a process's arena, one law for each way through the code.
use Rattle.std.specs.Prelude.{◌≡◌, Bool, true, false, ◌||◌, ℕ, ◌+◌, ◌-◌, ◌≤◌, ◌<◌, eqb, Option, Some, None}
use Rattle.std.proofs.Math.Path.{ap, sym}
use Rattle.std.proofs.Common.{◌∙◌, arith, eq-eqb, ne_eqb, lt-ltb, le-ltb}
use Rattle.std.proofs.Math.Bool.{cond}
use mathlib.Core.List.{List}
use Rattle.std.proofs.Math.Dec.{ltb}
use Rattle.address.specs.declared.VirtAddr.{VirtAddr}
use Rattle.segment.specs.declared.Segment.{Segment}
use Rattle.segments.specs.Table.{empty}
use Rattle.segment_search.specs.Search.{search}
use Rattle.segments.specs.Calls.{lowest}
use Rattle.segments.specs.PositionLaws.{held_stored}
use Rattle.model.specs.declared.Process.{Process}
use Rattle.model.specs.declared.Place.{Place}
use Rattle.model.specs.Layout.{machine}
use Rattle.model.specs.Machine.{Machine, process_at}
use Rattle.model.specs.Segments.{segments_of, manager_of, reserved, found_start, lowest_start}
use Rattle.model.specs.Create.{spot}
use Rattle.model.specs.SoundLaws.{tells_processes}
use Rattle.model.specs.RecordLaws.{process_tells}
use Rattle.lookup.specs.LookupsLaws.{processes_length}
use Rattle.reserve.specs.LowestSpot.{ProcessesFit}

module _ (m : Machine) (p len : ℕ) (q : Process) (read : q ≡ process_at m p) where
  -- the search of some segments over an arena
  abbrev searched : Process → List Segment → Option (ℕ × ℕ)
  searched x t = search t (x.start.0 + (x.size - 1)) len x.start.0 0

  lowest_in : lowest (manager_of m p) len ≡ cond (eqb len 0 || ltb q.size len) None (searched q (segments_of m p))
  unfolding lowest manager_of
  lowest_in =
      ap (λ (t : List Segment). cond (eqb len 0 || ltb (process_at m p).size len) None (searched (process_at m p) t)) (held_stored (empty (process_at m p).start (process_at m p).size) (segments_of m p))
      ∙ ap (λ (x : Process). cond (eqb len 0 || ltb x.size len) None (searched x (segments_of m p))) (sym read)

  lowest_when : (b : Bool) → (eqb len 0 || ltb q.size len) ≡ b → found_start (cond b None (searched q (segments_of m p))) ≡ lowest_start m p len
  unfolding lowest_start
  lowest_when b e = sym (ap found_start (lowest_in ∙ ap (λ (x : Bool). cond x None (searched q (segments_of m p))) e))

  pub lowest_empty : len ≡ 0 → None ≡ lowest_start m p len
  lowest_empty e = lowest_when true (rw (eq-eqb len 0 e))

  module _ (some : len ≡ 0 → ⊥) where
    pub lowest_large : q.size < len → None ≡ lowest_start m p len
    lowest_large h = lowest_when true (rw (ne_eqb len 0 some) (lt-ltb q.size len h))

    pub lowest_searched : len ≤ q.size → (f : Option ℕ) → f ≡ found_start (searched q (segments_of m p)) → f ≡ lowest_start m p len
    lowest_searched h f g = g ∙ lowest_when false (rw (ne_eqb len 0 some) (le-ltb q.size len h))

-- an arena that fits ends at an address
pub arena_ends : (w : List ℕ) (p : ℕ) → p < 8 → (q : Process) → q ≡ process_at (machine w) p → ProcessesFit (machine w) → 18446744073709551615 - q.start.0 < q.size - 1 → ⊥
arena_ends w p h q e fit past =
    let u = ((tells_processes (machine w) _ _ (process_tells (machine w))).yes fit p (rw processes_length (omega arith))).user_last in
    let same = ap (λ (x : Process). x.start.0 + x.size) e in
    omega arith

-- ---- the spot

module _ (m : Machine) (p : ℕ) (place : Place) (len : ℕ) where
  pub spot_lowest : place ≡ Place.Lowest → (f : Option ℕ) → f ≡ lowest_start m p len → f ≡ spot m p place len
  spot_lowest given f e = e ∙ ap (λ (x : Place). spot m p x len) (sym given)

  module _ (a : VirtAddr) (given : place ≡ Place.At a) (b : Bool) (e : b ≡ reserved m p a.0 len) where
    spot_when : (x : Bool) → b ≡ x → cond x None (Some a.0) ≡ spot m p place len
    spot_when x t = ap (λ (y : Bool). cond y None (Some a.0)) (sym t ∙ e) ∙ ap (λ (y : Place). spot m p y len) (sym given)

    pub spot_taken : b ≡ true → None ≡ spot m p place len
    spot_taken t = spot_when true t

    pub spot_given : b ≡ false → Some a.0 ≡ spot m p place len
    spot_given t = spot_when false t
