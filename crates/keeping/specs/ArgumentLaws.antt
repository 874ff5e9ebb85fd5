-- What the tests of a call tell of its arguments: an open process, the region that is named by an address.
use Rattle.std.specs.Prelude.{◌≡◌, true, false, not, ℕ}
use Rattle.std.proofs.Common.{eqb-true}
use Rattle.std.proofs.lemmas.Bool.{not-false}
use Rattle.model.specs.Machine.{Machine, process_at, region_at, order_of}
use Rattle.model.specs.Lookup.{is_open, is_found, row_found, region_for, contains}
use Rattle.model.specs.LookupLaws.{first_found}
use Rattle.laws.specs.In.{In}
use Rattle.laws.specs.InListsLaws.{among_in}
use Rattle.model.specs.FoundRowLaws.{found_row}

-- the slot of an attached region at an address
pub record Named (m : Machine) (p slot a : ℕ) : Type 0 where
  pub opened : (process_at m p).opened ≡ 1
  pub listed : In slot (order_of m p)
  pub inside : contains (region_at m p slot) a ≡ true

-- what the test of a process tells
pub open_by_test : (m : Machine) (p : ℕ) → not (is_open m p) ≡ false → (process_at m p).opened ≡ 1
open_by_test m p e = eqb-true (process_at m p).opened 1 (not-false _ e)

-- what the tests of an address tell
pub named_at : (m : Machine) (p a : ℕ) → not (is_open m p) ≡ false → not (is_found (region_for m p a)) ≡ false → Named m p (row_found (region_for m p a)) a
unfolding region_for
named_at m p a e f =
    let k = first_found (λ s. contains (region_at m p s) a) (order_of m p) (row_found (region_for m p a)) (found_row (region_for m p a) f) in
    record { opened = open_by_test m p e; listed = among_in _ (order_of m p) k.1; inside = k.0 }
