-- A process's row: its arena and counts, and what a closed one has.
use Rattle.std.specs.Prelude.{Bool, ◌&&◌, ℕ, ◌+◌, eqb, ltb, leb}
use Rattle.address.specs.Pages.{aligned}
use Rattle.model.specs.declared.Process.{Process}
use Rattle.model.specs.declared.Region.{Region}
use Rattle.model.specs.Machine.{user_end}

-- a slot without a region, with its number
abbrev pub no_slot : ℕ → Region → Bool
no_slot s r = eqb r.kind 0

-- the part of process_fits that is about the row alone
unfoldable pub arena_fits : Process → Bool
arena_fits q = aligned q.start.0 && (aligned q.size && (ltb q.start.0 user_end && (leb (q.start.0 + q.size) user_end && (leb q.attached 64 && leb q.mapped 128))))
