-- RULES P1 to P12, as rows of the table.
use Rattle.std.specs.Prelude.{true, false, List, [], ◌∷◌, map, ℕ, ◌*◌, replicate}
use Rattle.answers.specs.declared.Refusal.{Refusal}
use Rattle.answers.specs.declared.Refusal.TheVariants.{Shared, NotWritable}
use Rattle.segments.specs.Run.{nothing}
use Rattle.segments.specs.Points.{points as segment_points}
use Rattle.model.specs.declared.File.{File}
use Rattle.model.specs.declared.Place.{Place}
use Rattle.model.specs.Machine.{State, empty_machine}
use Rattle.model.specs.Run.{Call}
use Rattle.model.specs.PointTable.{Event, does, sees, Look, World, ok, says, lists, lists_not, Row, manager_row}

-- a machine that is yet to be started, with n frames of bytes 7, the files and their bytes
unfoldable pub unstarted : ℕ → List File → List ℕ → State
unstarted n files bytes = record { machine = empty_machine n files; frames = replicate (n * 4096) 7; bytes = bytes }

-- a world around a state, its lone manager without an arena
abbrev pub around : State → World
around s = record { state = s; manager = nothing }

abbrev pub fresh : ℕ → List File → List ℕ → World
fresh n files bytes = around (unstarted n files bytes)

abbrev pub at : ℕ → Place
at a = Place.At (record { 0 = a })

-- PRESENT, WRITABLE, USER_ACCESSIBLE; the same without WRITABLE
abbrev pub rw : ℕ
rw = 7

abbrev pub ro : ℕ
ro = 5

-- start, and a first process with the arena 0x1000, size 0x100000
abbrev pub begins : List Event → List Event
begins l = does (Call.start []) (ok []) ∷ does (Call.open_process 0x1000 0x100000) (ok (0 ∷ [])) ∷ l

-- the same with a second process
abbrev pub begins_two : List Event → List Event
begins_two l = begins (does (Call.open_process 0x1000 0x100000) (ok (1 ∷ [])) ∷ l)

-- a private lazy region, CopyOnWrite, at a given start
abbrev pub lazy : ℕ → ℕ → ℕ → ℕ → Event
lazy p a size flags = does (Call.create_private p (at a) false size flags false false) (ok (a ∷ []))

-- a private eager region, CopyOnWrite
abbrev pub whole : ℕ → ℕ → ℕ → ℕ → Event
whole p a size flags = does (Call.create_private p (at a) true size flags false false) (ok (a ∷ []))

abbrev pub shared : ℕ → ℕ → ℕ → Event
shared p a size = does (Call.create_shared p (at a) size) (ok (a ∷ []))

-- a call that succeeds and gives no value, and one that refuses
abbrev pub done : Call → Event
done c = does c (ok [])

abbrev pub refuses : Call → Refusal → Event
refuses c r = does c (says r [])

abbrev pub yes : Call → Event
yes c = does c (ok (1 ∷ []))

abbrev pub not : Call → Event
not c = does c (ok (0 ∷ []))

-- P1 to P6: crate `segments`' rows, each from a world whose manager is yet without an arena
unfoldable pub p1_6 : List Row
p1_6 = map (manager_row (fresh 0 [] [])) segment_points

-- P7 Regions 0x1000..0x3000 and 0x3000..0x5000: 0x2000..0x4000 covered, 0x2000..0x5001 not, 0x9000..0x8000 covered.
unfoldable pub p7 : Row
p7 = record {
  from = fresh 0 [] [];
  events = begins (
      lazy 0 0x1000 0x2000 rw ∷ lazy 0 0x3000 0x2000 rw
      ∷ yes (Call.covers 0 0x2000 0x4000) ∷ not (Call.covers 0 0x2000 0x5001) ∷ yes (Call.covers 0 0x9000 0x8000) ∷ []);
}

-- P8 Region 0x1000..0x5000: carve 0x2000..0x4000 gives three parts, lists the middle.
unfoldable pub p8 : Row
p8 = record {
  from = fresh 0 [] [];
  events = begins (
      lazy 0 0x1000 0x4000 rw
      ∷ does (Call.carve 0 0x2000 0x4000) (lists (0x2000 ∷ []))
      ∷ sees (Look.spans 0) (0x1000 ∷ 0x1000 ∷ 0x2000 ∷ 0x2000 ∷ 0x4000 ∷ 0x1000 ∷ []) ∷ []);
}

-- P9 Carve 0x2000..0x2000: two parts, empty list.
unfoldable pub p9 : Row
p9 = record {
  from = fresh 0 [] [];
  events = begins (
      lazy 0 0x1000 0x4000 rw
      ∷ does (Call.carve 0 0x2000 0x2000) (lists [])
      ∷ sees (Look.spans 0) (0x1000 ∷ 0x1000 ∷ 0x2000 ∷ 0x3000 ∷ []) ∷ []);
}

-- P10 Private 0x1000..0x3000 then Shared 0x3000..0x5000: carve 0x2000..0x4000 says Shared; the list is then private 0x1000..0x2000,
-- 0x2000..0x3000, shared 0x3000..0x5000.
unfoldable pub p10 : Row
p10 = record {
  from = fresh 2 [] [];
  events = begins (
      lazy 0 0x1000 0x2000 rw ∷ shared 0 0x3000 0x2000
      ∷ does (Call.carve 0 0x2000 0x4000) (lists_not Shared)
      ∷ does (Call.regions 0) (lists (0x1000 ∷ 0x2000 ∷ 0x3000 ∷ []))
      ∷ sees (Look.spans 0) (0x1000 ∷ 0x1000 ∷ 0x2000 ∷ 0x1000 ∷ 0x3000 ∷ 0x2000 ∷ []) ∷ []);
}

-- P10 Shared first: Shared, both whole in that order.
unfoldable pub p10' : Row
p10' = record {
  from = fresh 2 [] [];
  events = begins (
      shared 0 0x3000 0x2000 ∷ lazy 0 0x1000 0x2000 rw
      ∷ does (Call.carve 0 0x2000 0x4000) (lists_not Shared)
      ∷ sees (Look.spans 0) (0x3000 ∷ 0x2000 ∷ 0x1000 ∷ 0x2000 ∷ []) ∷ []);
}

-- P11 One page written (frame 0), cloned: the source is read-only, 2 holders. Source write fault: frame 1. Clone write fault: frame 0 writable, no copy.
unfoldable pub p11 : Row
p11 = record {
  from = fresh 2 [] [];
  events = begins_two (
      lazy 0 0x1000 0x1000 rw ∷ done (Call.fault 0 0x1000 true) ∷ done (Call.store 0 0x1005 42) ∷ sees (Look.mapped 0 1) (0 ∷ rw ∷ [])
      ∷ done (Call.clone_region 0 0x1000 1)
      ∷ sees (Look.mapped 0 1) (0 ∷ ro ∷ []) ∷ sees (Look.mapped 1 1) [] ∷ sees (Look.held 0) (1 ∷ 2 ∷ []) ∷ sees Look.pool (1 ∷ 1 ∷ [])
      ∷ done (Call.fault 0 0x1000 true)
      ∷ sees (Look.mapped 0 1) (1 ∷ rw ∷ []) ∷ sees (Look.held 0) (1 ∷ 1 ∷ []) ∷ sees (Look.held 1) (1 ∷ 1 ∷ []) ∷ sees Look.pool (0 ∷ 2 ∷ [])
      ∷ done (Call.fault 1 0x1000 true)
      ∷ sees (Look.mapped 1 1) (0 ∷ rw ∷ []) ∷ sees (Look.held 0) (1 ∷ 1 ∷ []) ∷ sees Look.pool (0 ∷ 2 ∷ [])
      ∷ does (Call.load 0 0x1005) (ok (42 ∷ [])) ∷ does (Call.load 1 0x1005) (ok (42 ∷ [])) ∷ []);
}

-- P12 (request 2026-01) Write fault, unbacked, read-only: NotWritable, twice, and no frame spent. A read then fills the page.
unfoldable pub p12 : Row
p12 = record {
  from = fresh 1 [] [];
  events = begins (
      lazy 0 0x1000 0x1000 ro
      ∷ refuses (Call.fault 0 0x1000 true) NotWritable ∷ sees (Look.mapped 0 1) [] ∷ sees Look.pool (1 ∷ 0 ∷ [])
      ∷ refuses (Call.fault 0 0x1000 true) NotWritable ∷ sees (Look.mapped 0 1) [] ∷ sees Look.pool (1 ∷ 0 ∷ [])
      ∷ done (Call.fault 0 0x1000 false) ∷ sees (Look.mapped 0 1) (0 ∷ ro ∷ [])
      ∷ refuses (Call.fault 0 0x1000 true) NotWritable ∷ []);
}
