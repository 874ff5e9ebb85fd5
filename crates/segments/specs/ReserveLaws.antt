-- What reserving answers, case by case.
-- RULES S4 to S6: 0 bytes or more than the arena are NoSpace; otherwise the lowest free start, NoSpace exactly if there is none; TableFull with 64 held and a start free.
use Rattle.std.specs.Prelude.{◌≡◌, ℕ, ◌≤◌, ◌<◌, Option, Some, None, Ok, Err}
use Rattle.std.proofs.Math.Path.{refl}
use borrow.Author.Tests.{le-leb, lt-leb}
use Rattle.answers.specs.declared.Refusal.TheVariants.{BadTable, NoSpace, TableFull}
use Rattle.laws.specs.TellsLaws.{told, not_told}
use Rattle.segments.specs.declared.table.VirtualMemoryManager.{VirtualMemoryManager}
use Rattle.segment.specs.Form.{start_of}
use Rattle.segments.specs.Table.{held, arena, stored, insert, Rule}
use Rattle.segment_search.specs.Search.{count}
use Rattle.segments.specs.Calls.{segment, lowest, reserve_call}
use Rattle.segments.specs.FreeStart.{FreeStart, LowestStart, passedb}
use Rattle.segments.specs.RuleLaws.{sound_tells}
use Rattle.segments.specs.LowestLaws.{full_none, none_full, lowest_found, restarts_count}

module _ (m : VirtualMemoryManager) (len : ℕ) where
  pub reserve_bad : (Rule m → ⊥) → reserve_call m len ≡ record { answer = Err BadTable; manager = m }
  unfolding reserve_call
  reserve_bad n = rw (not_told (sound_tells m) n)

  module _ (u : Rule m) where
    pub reserve_none : ((x : ℕ) → FreeStart m len x → ⊥) → reserve_call m len ≡ record { answer = Err NoSpace; manager = m }
    unfolding reserve_call
    reserve_none n = rw (told (sound_tells m) u, none_full m len n)

    pub reserve_full : (x : ℕ) → FreeStart m len x → 64 ≤ m.count → reserve_call m len ≡ record { answer = Err TableFull; manager = m }
    unfolding reserve_call
    reserve_full x f l = at (lowest m len) refl
      where
        at : (a : Option (ℕ × ℕ)) → lowest m len ≡ a → reserve_call m len ≡ record { answer = Err TableFull; manager = m }
        at None e = absurd (full_none m len e x f)
        at (Some (a, r)) e = rw (told (sound_tells m) u, e, le-leb 64 m.count l)

    pub reserve_lowest : (a : ℕ) → LowestStart m len a → m.count < 64
        → reserve_call m len ≡ record { answer = Ok (segment a len, (count (passedb (start_of (arena m)) a) (held m))); manager = stored m (insert (segment a len) (held m)) }
    unfolding reserve_call
    reserve_lowest a f l =
        let p = lowest_found m len a f in
        let c : p.0 ≡ count (passedb (start_of (arena m)) a) (held m) = restarts_count m len u a p.0 p.1 in
        rw (told (sound_tells m) u, p.1, lt-leb 64 m.count l, c)
