-- The list of a process's attached regions: what the loop over its places knows, and regions in no list.
use Rattle.std.specs.Prelude.{Bool, not, ◌||◌, ℕ, eqb, leb}
use Rattle.model.specs.declared.Region.{Region}

-- ---- regions without a mark

abbrev pub pinned_if_unmarked : ℕ → Region → Bool
pinned_if_unmarked mark r = eqb r.kind 0 || (not (eqb mark 0) || leb 1 r.pins)

-- ---- the list of a process

abbrev pub is_zero : ℕ → Bool
is_zero s = eqb s 0
