-- A region in the way of a new segment, and that a process's segments overlap it exactly if one of its regions is in the way.
use Rattle.std.specs.Prelude.{Bool, ◌&&◌, ℕ, ◌+◌, ◌-◌}
use Rattle.segment.specs.declared.Segment.{Segment}
use Rattle.segment.specs.Form.{overb}
use Rattle.segments.specs.Calls.{segment}
use Rattle.model.specs.declared.Region.{Region}
use Rattle.model.specs.Lookup.{is_used, segment_len}

-- the segment of a region
abbrev pub segment_for : Region → Segment
segment_for r = segment r.start.0 (segment_len r)

-- whether a slot is in use by a region whose segment has one of len bytes from start on
abbrev pub over_used : ℕ → ℕ → Region → Bool
over_used start len r = is_used r && overb (segment_for r) start (start + (len - 1))
