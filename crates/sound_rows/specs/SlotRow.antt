-- Creation's limits of a region in four parts: place, rights, content, range.
use Rattle.std.specs.Prelude.{Bool, ◌&&◌, ◌||◌, not, ℕ, ◌+◌, ◌^◌, eqb, ltb, leb}
use Rattle.address.specs.Flags.{good_flags}
use Rattle.address.specs.Pages.{aligned}
use Rattle.model.specs.declared.Region.{Region}
use Rattle.model.specs.Lookup.{segment_end, pages_for}
use Rattle.model.specs.Backing.{backing_at}
use Rattle.model.specs.Machine.{Machine, user_end, most_pins}

-- kind, start, size, segment and pins
unfoldable pub place_fits : Region → Bool
place_fits r = leb r.kind 3 && (aligned r.start.0 && (leb 1 r.size && (leb (segment_end r) user_end && leb r.pins most_pins)))

-- flags, fork policy and per-thread mark: a region's own, and those of a Shared one
abbrev pub own_rights : Region → Bool
own_rights r = good_flags r.flags.0 && (leb r.fork 1 && leb r.per_thread 1)

abbrev pub shared_rights : Region → Bool
shared_rights r = eqb r.flags.0 0 && (eqb r.fork 0 && (eqb r.per_thread 0 && eqb r.ranged 1))

unfoldable pub rights_fit : Region → Bool
rights_fit r = (eqb r.kind 3 || own_rights r) && (not (eqb r.kind 3) || shared_rights r)

-- the part of one of n files, and none
abbrev pub file_part : ℕ → Region → Bool
file_part n r = ltb r.file n && (leb (r.offset + r.size) (2 ^ 48) && (leb r.length r.size && eqb r.ranged 0))

abbrev pub no_file_part : Region → Bool
no_file_part r = eqb r.file 0 && (eqb r.offset 0 && eqb r.length 0)

unfoldable pub content_fits : Machine → Region → Bool
content_fits m r = (not (eqb r.kind 2) || file_part m.file_count r) && (eqb r.kind 2 || no_file_part r)

-- the range: one that covers the region, or none
unfoldable pub range_fits : Machine → Region → Bool
range_fits m r = (not (eqb r.ranged 1) || eqb (backing_at m r.range.0).len (pages_for r.size)) && (eqb r.ranged 1 || (eqb r.ranged 0 && eqb r.range.0 0))
