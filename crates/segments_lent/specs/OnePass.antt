-- The search for the lowest free start over a table in list order: one row after the other, none twice (RULES S5, S7).
use Rattle.std.specs.Prelude.{cond, ℕ, ◌+◌, ◌-◌, ltb, Option, Some, None}
use Rattle.segment.specs.declared.Segment.{Segment}
use Rattle.segment.specs.Form.{start_of, overb}
use Rattle.segments_lent.specs.declared.lowest.Probe.{Probe}

-- past a row: from where it ends if it is in the way, if the arena's last byte allows it
abbrev pub past_row : Segment → Probe → (len last : ℕ) → Option Probe
past_row s p len last =
    cond (overb s p.start (p.start + (len - 1)))
    (cond (ltb last (start_of s + s.len + (len - 1))) None (Some (record { start = start_of s + s.len; restarts = p.restarts + 1 })))
    (Some p)
