-- Laws of a page entry more: a free row is found, and the entry stands in it.
use Rattle.std.specs.Prelude.{◌≡◌, true, List, set, Option, Some, None}
use Rattle.std.proofs.Math.Path.{ap}
use Rattle.std.proofs.Common.{sym, ◌∙◌}
use Rattle.std.proofs.lemmas.Bool.{false≢true}
use Prim.Native.Nat.{ℕ, ◌+◌, ◌<◌}
use native.Mathlib.Omega.{arith}
use Rattle.model.specs.declared.Entry.{Entry}
use Rattle.model.specs.Layout.{machine}
use Rattle.model.specs.Machine.{Machine, with_entries, no_entry}
use Rattle.model.specs.Lookup.{is_found, row_found, free_entry}
use Rattle.model.specs.Backing.{add_entry}
use Rattle.model.specs.FoundRowLaws.{first_found}
use Rattle.lookup.specs.LookupsLaws.{unowned, entries_length}

pub entry_low : (w : List ℕ) (i : ℕ) → Some i ≡ free_entry (machine w) → i < 512
unfolding free_entry
entry_low w i e = let found = (first_found unowned (machine w).entries i no_entry (sym e)).0 in let sized = entries_length w in omega arith

pub entry_added : (m : Machine) (row page f i : ℕ) → Some i ≡ free_entry m → (e : Entry) → e ≡ record { owner = row + 1; page = record { 0 = page }; frame = record { 0 = f } } → (n : Machine) → n ≡ with_entries m (set m.entries i e) → n ≡ add_entry m row page f
unfolding add_entry
entry_added m row page f i found e row_is n put = put ∙ (λ t. with_entries m (set m.entries (row_found (found t)) (row_is t)))

pub entry_none : (m : Machine) → is_found (free_entry m) ≡ true → None ≡ free_entry m → ⊥
entry_none m f e = false≢true (ap (λ (x : Option ℕ). is_found x) e ∙ f)
