-- Points of our own beside the edges that P1 to P12 leave without one, in the same form.
use Rattle.std.specs.Prelude.{true, false, List, [], ◌∷◌, map, ℕ, ◌+◌, ◌*◌, ◌^◌, None}
use Rattle.answers.specs.declared.Refusal.TheVariants.{BadTable, BadRange, BadFlags, NoFile, NoRegion, NoSpace, SegmentReserved, NotAccessible, NotWritable, OutOfMemory, ReadFailed, UnsupportedRegion, EagerBacking, InUse, TableFull, Denied}
use Rattle.model.specs.declared.Region.{Region}
use Rattle.model.specs.declared.File.{File}
use Rattle.model.specs.declared.Place.{Place}
use Rattle.laws.specs.Lists.{up_from, pad, put_part}
use Rattle.model.specs.Machine.{State, empty_machine, with_machine, with_regions, with_order, no_region}
use Rattle.model.specs.Create.{placed_at, wanted_private}
use Rattle.model.specs.Run.{Call}
use Rattle.model.specs.PointTable.{does, sees, Look, ok, says, lists, lists_not, Row}
use Rattle.model.specs.RangeRows.{byte, opened}
use Rattle.model.specs.PointRows.{around, at, rw, ro, lazy, whole, done, refuses, not}

-- a file of the three bytes 11, 12, 13, and one that cannot be read
abbrev pub two_files : List File
two_files = record { readable = 1; offset = 0; len = 3 } ∷ record { readable = 0; offset = 0; len = 3 } ∷ []

-- file fill: zeros after the file's end, zeros after the file length though the file goes on, and past the region's file length on its last page
unfoldable pub file_end : Row
file_end = record {
  from = around (opened 3 two_files (11 ∷ 12 ∷ 13 ∷ []));
  events = (
      does (Call.create_file 0 (at 0x1000) 0x1001 rw false false 0 1 0x1001) (ok (0x1000 ∷ []))
      ∷ done (Call.fault 0 0x1000 false) ∷ byte 0 0x1000 12 ∷ byte 0 0x1001 13 ∷ byte 0 0x1002 0 ∷ byte 0 0x1fff 0
      ∷ done (Call.fault 0 0x2000 false) ∷ byte 0 0x2000 0
      ∷ does (Call.create_file 0 (at 0x4000) 0x1000 rw false false 0 0 2) (ok (0x4000 ∷ []))
      ∷ done (Call.fault 0 0x4000 false) ∷ byte 0 0x4001 12 ∷ byte 0 0x4002 0 ∷ []);
}

-- ReadFailed only where the page starts below the region's file length; it spends no frame
unfoldable pub unreadable : Row
unreadable = record {
  from = around (opened 1 two_files (11 ∷ 12 ∷ 13 ∷ []));
  events = (
      does (Call.create_file 0 (at 0x1000) 0x2000 rw false false 1 0 0x1000) (ok (0x1000 ∷ []))
      ∷ refuses (Call.fault 0 0x1000 false) ReadFailed ∷ sees Look.pool (1 ∷ 0 ∷ [])
      ∷ done (Call.fault 0 0x2000 false) ∷ byte 0 0x2000 0
      ∷ refuses (Call.fault 0 0x1000 false) OutOfMemory
      ∷ does (Call.create_file 0 (at 0x8000) 0x1000 rw false false 2 0 0) (says NoFile (0 ∷ [])) ∷ []);
}

-- a private lazy region of one page, the i-th of a crowd
abbrev pub crowd_row : ℕ → Region
crowd_row i = placed_at (wanted_private 0x1000 rw false false) (0x100000 + i * 0x1000) None

-- the same, with n regions of one process at 0x100000, 0x101000, .., in its first slots
unfoldable pub crowded : ℕ → ℕ → ℕ → State
crowded frames p n =
    let s = opened frames [] [] in
    with_machine s (with_order (with_regions s.machine (put_part 64 p (pad 64 no_region (map crowd_row (up_from 0 n))) s.machine.regions)) p (up_from 0 n))

-- carve wants two slots and one is left: TableFull, the region goes back whole, at the end of the list; with one bound inside it is enough
unfoldable pub carve_full : Row
carve_full = record {
  from = around (crowded 0 0 62);
  events =
      lazy 0 0x1000 0x4000 rw
      ∷ does (Call.carve 0 0x2000 0x4000) (lists_not TableFull)
      ∷ does (Call.region 0 0x1000) (ok (0x1000 ∷ []))
      ∷ does (Call.carve 0 0x2000 0x5000) (lists (0x2000 ∷ []))
      ∷ does (Call.create_private 0 (at 0x90000) false 1 rw false false) (says TableFull (0 ∷ [])) ∷ [];
}

-- carve keeps its splits and then says InUse of a pinned region inside; a range is never split; a pinned region that crosses is InUse itself
unfoldable pub carve_in_use : Row
carve_in_use = record {
  from = around (opened 1 [] []);
  events = (
      lazy 0 0x1000 0x2000 rw ∷ lazy 0 0x3000 0x1000 rw ∷ done (Call.pin 0 0x3000)
      ∷ does (Call.carve 0 0x2000 0x5000) (lists_not InUse)
      ∷ sees (Look.spans 0) (0x3000 ∷ 0x1000 ∷ 0x1000 ∷ 0x1000 ∷ 0x2000 ∷ 0x1000 ∷ []) ∷ []);
}

-- an eager region is never split, a pinned one is in use
unfoldable pub carve_range : Row
carve_range = record {
  from = around (opened 2 [] []);
  events = (
      whole 0 0x8000 0x1001 rw ∷ does (Call.carve 0 0x9000 0xa000) (lists_not EagerBacking)
      ∷ lazy 0 0x1000 0x3000 rw ∷ done (Call.pin 0 0x1000) ∷ does (Call.carve 0 0x2000 0x3000) (lists_not InUse)
      ∷ does (Call.carve 0 0x2001 0x3000) (lists_not BadRange) ∷ does (Call.carve 0 0x3000 0x2000) (lists_not BadRange) ∷ does (Call.carve 0 0 (2 ^ 47 + 0x1000)) (lists_not BadRange)
      ∷ sees (Look.spans 0) (0x8000 ∷ 0x1001 ∷ 0x1000 ∷ 0x3000 ∷ []) ∷ []);
}

-- a detached region holds its segment, its backing and its slot until the last unpin; close says InUse meanwhile
unfoldable pub detached_unpin : Row
detached_unpin = record {
  from = around (opened 1 [] []);
  events = (
      lazy 0 0x1000 0x1000 rw ∷ done (Call.fault 0 0x1000 true) ∷ done (Call.pin 0 0x1000) ∷ done (Call.pin 0 0x1fff) ∷ done (Call.remove 0 0x1000)
      ∷ does (Call.region 0 0x1000) (says NoRegion (0 ∷ [])) ∷ does (Call.load 0 0x1000) (says Denied (0 ∷ [])) ∷ refuses (Call.pin 0 0x1000) NoRegion
      ∷ does (Call.create_private 0 (at 0x1000) false 1 rw false false) (says SegmentReserved (0 ∷ [])) ∷ sees (Look.held 0) (1 ∷ 1 ∷ [])
      ∷ refuses (Call.close 0) InUse ∷ done (Call.unpin 0 0x1000) ∷ sees (Look.held 0) (1 ∷ 1 ∷ [])
      ∷ done (Call.unpin 0 0x1000) ∷ sees (Look.held 0) (0 ∷ 0 ∷ []) ∷ sees Look.pool (1 ∷ 0 ∷ []) ∷ refuses (Call.unpin 0 0x1000) NoRegion
      ∷ lazy 0 0x1000 0x1000 rw ∷ refuses (Call.unpin 0 0x1000) NoRegion ∷ done (Call.close 0) ∷ does (Call.open_process 0x1000 0) (ok (0 ∷ [])) ∷ []);
}

-- region cloning goes 9, 21, 14: TableFull (no slot) before OutOfMemory, OutOfMemory once there is a slot, SegmentReserved before both
unfoldable pub clone_order : Row
clone_order = record {
  from = around (crowded 1 1 64);
  events = (
      does (Call.create_private 0 (at 0x1000) false 0x1000 rw true false) (ok (0x1000 ∷ [])) ∷ done (Call.fault 0 0x1000 true)
      ∷ refuses (Call.clone_region 0 0x1000 1) TableFull ∷ done (Call.remove 1 0x100000) ∷ refuses (Call.clone_region 0 0x1000 1) OutOfMemory
      ∷ lazy 1 0x1000 0x1000 rw ∷ refuses (Call.clone_region 0 0x1000 1) SegmentReserved ∷ sees (Look.held 0) (1 ∷ 1 ∷ []) ∷ []);
}

-- exact sizes against segments: look-ups go by the exact size, reservations by pages; a load past the size on a mapped page is granted
unfoldable pub exact_size : Row
exact_size = record {
  from = around (opened 1 [] []);
  events = (
      lazy 0 0x1000 0x1001 rw ∷ does (Call.region 0 0x2000) (ok (0x1000 ∷ [])) ∷ does (Call.region 0 0x2001) (says NoRegion (0 ∷ [])) ∷ not (Call.covers 0 0x1000 0x2002)
      ∷ does (Call.create_private 0 (at 0x2000) false 1 rw false false) (says SegmentReserved (0 ∷ [])) ∷ refuses (Call.fault 0 0x2001 false) NoRegion
      ∷ done (Call.fault 0 0x2000 false) ∷ does (Call.load 0 0x2fff) (ok (0 ∷ [])) ∷ does (Call.load 0 0x1000) (says Denied (0 ∷ []))
      ∷ does (Call.create_private 0 Place.Lowest false 0x1000 rw false false) (ok (0x3000 ∷ []))
      ∷ does (Call.create_private 0 Place.Lowest false 0x100000 rw false false) (says NoSpace (0 ∷ []))
      ∷ does (Call.carve 0 0x2000 0x3000) (lists (0x2000 ∷ [])) ∷ sees (Look.spans 0) (0x3000 ∷ 0x1000 ∷ 0x1000 ∷ 0x1000 ∷ 0x2000 ∷ 1 ∷ []) ∷ sees (Look.mapped 0 2) (0 ∷ rw ∷ []) ∷ []);
}

-- NotAccessible first; protection of a Shared region; eager populate asks for write access
unfoldable pub rights : Row
rights = record {
  from = around (opened 3 [] []);
  events = (
      lazy 0 0x1000 0x1000 3 ∷ refuses (Call.fault 0 0x1000 true) NotAccessible ∷ refuses (Call.protect 0 0x1000 8) BadFlags
      ∷ done (Call.protect 0 0x1000 rw) ∷ done (Call.fault 0 0x1000 false) ∷ done (Call.protect 0 0x1000 1) ∷ sees (Look.mapped 0 1) (0 ∷ 1 ∷ [])
      ∷ does (Call.load 0 0x1000) (says Denied (0 ∷ [])) ∷ done (Call.populate 0 0x1000 1 false) ∷ refuses (Call.fault 0 0x1000 false) NotAccessible
      ∷ does (Call.create_shared 0 (at 0x4000) 0x1000) (ok (0x4000 ∷ [])) ∷ refuses (Call.protect 0 0x4000 rw) UnsupportedRegion
      ∷ done (Call.fault 0 0x4000 true) ∷ sees (Look.mapped 0 4) (1 ∷ (2 ^ 63 + 7) ∷ [])
      ∷ does (Call.create_private 0 (at 0x6000) false 1 ro true false) (ok (0x6000 ∷ [])) ∷ done (Call.eager 0) ∷ sees (Look.mapped 0 6) (2 ∷ ro ∷ []) ∷ done (Call.eager 0) ∷ []);
}

-- request 2026-02: a worker with a sealed area, one without user access and a writable one, all copied eagerly, is cloned and populated;
-- the sealed area is mapped read-only, the closed one not at all
unfoldable pub sealed : Row
sealed = record {
  from = around (opened 6 [] []);
  events = (
      does (Call.create_private 0 (at 0x1000) false 0x1000 rw true false) (ok (0x1000 ∷ [])) ∷ does (Call.create_private 0 (at 0x3000) false 0x1000 rw true false) (ok (0x3000 ∷ []))
      ∷ does (Call.create_private 0 (at 0x5000) false 0x1000 1 true false) (ok (0x5000 ∷ [])) ∷ done (Call.eager 0) ∷ done (Call.store 0 0x1001 5) ∷ done (Call.protect 0 0x1000 ro)
      ∷ done (Call.clone 0 1) ∷ done (Call.eager 1)
      ∷ sees (Look.mapped 1 1) (2 ∷ ro ∷ []) ∷ sees (Look.mapped 1 3) (3 ∷ rw ∷ []) ∷ sees (Look.mapped 1 5) []
      ∷ byte 1 0x1001 5 ∷ does (Call.store 1 0x1001 6) (says Denied []) ∷ done (Call.store 1 0x3000 7) ∷ byte 0 0x3000 0 ∷ []);
}

-- request 2026-01: NotAccessible before it, OutOfMemory after it; a read is filled; populate keeps the pages before the doomed one
unfoldable pub doomed : Row
doomed = record {
  from = around (opened 1 [] []);
  events = (
      lazy 0 0x1000 0x1000 1 ∷ refuses (Call.fault 0 0x1000 true) NotAccessible
      ∷ lazy 0 0x3000 0x1000 rw ∷ lazy 0 0x4000 0x2000 ro
      ∷ refuses (Call.fault 0 0x4000 true) NotWritable ∷ sees Look.pool (1 ∷ 0 ∷ [])
      ∷ refuses (Call.populate 0 0x3000 0x3000 true) NotWritable ∷ sees (Look.mapped 0 3) (0 ∷ rw ∷ []) ∷ sees (Look.mapped 0 4) [] ∷ sees Look.pool (0 ∷ 1 ∷ [])
      ∷ refuses (Call.fault 0 0x5000 true) NotWritable ∷ refuses (Call.fault 0 0x5000 false) OutOfMemory ∷ []);
}

-- a process is cloned in list order, without its per-thread regions; CopyEager regions get frames of their own, and the parent's stay writable
unfoldable pub fork : Row
fork = record {
  from = around (opened 3 [] []);
  events = (
      does (Call.create_private 0 (at 0x1000) true 0x1000 rw true false) (ok (0x1000 ∷ [])) ∷ does (Call.create_private 0 (at 0x3000) false 0x1000 rw false true) (ok (0x3000 ∷ [])) ∷ does (Call.create_shared 0 (at 0x5000) 1) (ok (0x5000 ∷ []))
      ∷ done (Call.fault 0 0x1000 true) ∷ done (Call.store 0 0x1001 5) ∷ done (Call.clone 0 1)
      ∷ does (Call.regions 1) (lists (0x1000 ∷ 0x5000 ∷ [])) ∷ sees (Look.mapped 0 1) (0 ∷ rw ∷ []) ∷ sees (Look.held 0) (1 ∷ 1 ∷ []) ∷ sees (Look.held 1) (1 ∷ 2 ∷ []) ∷ sees (Look.held 2) (1 ∷ 1 ∷ [])
      ∷ sees (Look.mapped 1 1) [] ∷ done (Call.eager 1) ∷ sees (Look.mapped 1 1) (2 ∷ rw ∷ []) ∷ byte 1 0x1001 5
      ∷ done (Call.store 1 0x1001 6) ∷ byte 0 0x1001 5
      ∷ done (Call.fault 0 0x5000 true) ∷ done (Call.store 0 0x5000 77) ∷ done (Call.fault 1 0x5000 false) ∷ byte 1 0x5000 77 ∷ []);
}

-- a state that breaks a rule is BadTable to every call and stays as it is: here frame bytes that are one short
unfoldable pub broken : Row
broken = record {
  from = around (record { machine = empty_machine 0 []; frames = 0 ∷ []; bytes = [] });
  events =
      refuses Call.sound BadTable ∷ does (Call.open_process 0x1000 0) (says BadTable (0 ∷ [])) ∷ does (Call.regions 0) (lists_not BadTable) ∷ refuses (Call.start []) BadTable ∷ [];
}
