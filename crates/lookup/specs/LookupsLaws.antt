-- Laws of `Lookups`: what the look-ups look for, and the tables that they look through: processes, page entries, a process's slots.
use Rattle.std.specs.Prelude.{refl, Option, Some, None, is_some, ◌≡◌, Bool, List, ℕ, ◌+◌, ◌*◌, ◌<◌, length, get_or, eqb}
use Rattle.std.proofs.Common.{sym, ◌∙◌, arith}
use Rattle.model.specs.declared.Process.{Process}
use Rattle.model.specs.declared.Region.{Region}
use Rattle.model.specs.declared.Entry.{Entry}
use Rattle.laws.specs.RowsLaws.{rows_length}
use Rattle.model.specs.Layout.{machine}
use Rattle.model.specs.Machine.{no_region}
use Rattle.model.specs.Lookup.{is_found, regions_of}
use Rattle.laws.specs.ListsLaws.{part_length, part_at}

abbrev pub closed : Process → Bool
closed q = eqb q.opened 0

abbrev pub free_region : Region → Bool
free_region r = eqb r.kind 0

abbrev pub unowned : Entry → Bool
unowned e = eqb e.owner 0

pub processes_length : (w : List ℕ) → length (machine w).processes ≡ 8
unfolding machine
processes_length w = rows_length _ 8

pub entries_length : (w : List ℕ) → length (machine w).entries ≡ 512
unfolding machine
entries_length w = rows_length _ 512

pub regions_length : (w : List ℕ) → length (machine w).regions ≡ 512
unfolding machine
regions_length w = rows_length _ 512

pub order_length : (w : List ℕ) → length (machine w).order ≡ 512
unfolding machine
order_length w = rows_length _ 512

pub mapped_length : (w : List ℕ) → length (machine w).mapped ≡ 1024
unfolding machine
mapped_length w = rows_length _ 1024

pub backings_length : (w : List ℕ) → length (machine w).backings ≡ 256
unfolding machine
backings_length w = rows_length _ 256

pub files_length : (w : List ℕ) → length (machine w).files ≡ 8
unfolding machine
files_length w = rows_length _ 8

pub slots_length : (w : List ℕ) (p : ℕ) → p < 8 → length (regions_of (machine w) p) ≡ 64
slots_length w p h = part_length (machine w).regions 64 p (rw regions_length (omega arith))

pub slot_at : (w : List ℕ) (p s : ℕ) (r : Region) → s < 64 → r ≡ get_or (machine w).regions (p * 64 + s) no_region → r ≡ get_or (regions_of (machine w) p) s no_region
slot_at w p s r h e = e ∙ sym (part_at (machine w).regions 64 p s no_region h)

-- whether a look-up found something, as std's `is_some` tells it
pub some_found : (o : Option ℕ) → is_some o ≡ is_found o
some_found None = refl
some_found (Some i) = refl
