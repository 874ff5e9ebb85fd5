-- Points of our own on pages of ranges and on populating, in the form of P1 to P12.
use Rattle.std.specs.Prelude.{true, false, List, [], ◌∷◌, ℕ, ◌-◌, ◌^◌}
use Rattle.answers.specs.declared.Refusal.TheVariants.{BadAddress, BadRange, OutOfMemory}
use Rattle.model.specs.declared.File.{File}
use Rattle.model.specs.Machine.{State}
use Rattle.model.specs.Calls.{core_open}
use Rattle.model.specs.Run.{Call}
use Rattle.model.specs.PointTable.{Event, does, sees, Look, ok, Row}
use Rattle.model.specs.PointRows.{unstarted, around, rw, ro, lazy, whole, done, refuses}

abbrev pub byte : ℕ → ℕ → ℕ → Event
byte p a b = does (Call.load p a) (ok (b ∷ []))

-- a started machine with two processes opened, arenas 0x1000, size 0x100000, as open makes them
unfoldable pub opened : ℕ → List File → List ℕ → State
opened frames files bytes = (core_open (core_open (unstarted frames files bytes) 0x1000 0x100000).state 0x1000 0x100000).state

-- a clone takes WRITABLE off range pages too; a copy of a range page needs a new entry, which shadows the range; the range keeps its holders
unfoldable pub range_page : Row
range_page = record {
  from = around (opened 4 [] []);
  events = (
      whole 0 0x1000 0x2000 rw ∷ sees (Look.held 0) (2 ∷ 1 ∷ []) ∷ done (Call.fault 0 0x2000 true) ∷ done (Call.store 0 0x2000 9) ∷ sees (Look.mapped 0 2) (1 ∷ rw ∷ [])
      ∷ done (Call.clone 0 1) ∷ sees (Look.mapped 0 2) (1 ∷ ro ∷ []) ∷ sees (Look.held 0) (2 ∷ 2 ∷ [])
      ∷ done (Call.fault 0 0x2000 true) ∷ sees (Look.mapped 0 2) (2 ∷ rw ∷ []) ∷ sees (Look.held 0) (2 ∷ 2 ∷ []) ∷ byte 0 0x2000 9
      ∷ done (Call.store 0 0x2000 8) ∷ done (Call.fault 1 0x2000 false) ∷ sees (Look.mapped 1 2) (1 ∷ ro ∷ []) ∷ byte 1 0x2000 9
      ∷ done (Call.protect 0 0x1000 rw) ∷ sees (Look.mapped 0 2) (2 ∷ rw ∷ [])
      ∷ done (Call.protect 1 0x1000 rw) ∷ sees (Look.mapped 1 2) (1 ∷ ro ∷ [])
      ∷ done (Call.remove 0 0x1000) ∷ sees (Look.held 0) (2 ∷ 1 ∷ []) ∷ sees Look.pool (2 ∷ 2 ∷ []) ∷ byte 1 0x2000 9
      ∷ done (Call.fault 1 0x2000 true) ∷ sees (Look.mapped 1 2) (1 ∷ rw ∷ []) ∷ []);
}

-- populate: odd successes and BadRange; a range of 2^47 bytes; what was done before the refusing page stays
unfoldable pub populates : Row
populates = record {
  from = around (opened 3 [] []);
  events = (
      lazy 0 0x1000 0x2000 rw ∷ lazy 0 0x10000 (2 ^ 46) rw
      ∷ done (Call.populate 0 0x1000 0 true) ∷ done (Call.populate 0 0x1000 (2 ^ 64 - 1) true) ∷ done (Call.populate 0 0x1000 (2 ^ 47) true) ∷ sees Look.pool (3 ∷ 0 ∷ [])
      ∷ refuses (Call.populate 0 0x1000 (2 ^ 64 - 0x1000) true) BadRange ∷ refuses (Call.populate 0 (2 ^ 47) 0 true) BadAddress
      ∷ done (Call.populate 0 0x2fff 0xd001 false) ∷ sees (Look.mapped 0 2) (0 ∷ rw ∷ []) ∷ sees Look.pool (2 ∷ 1 ∷ [])
      ∷ refuses (Call.populate 0 0 (2 ^ 47) true) OutOfMemory
      ∷ sees (Look.mapped 0 1) (1 ∷ rw ∷ []) ∷ sees (Look.mapped 0 16) (2 ∷ rw ∷ []) ∷ sees (Look.mapped 0 17) [] ∷ sees Look.pool (0 ∷ 3 ∷ []) ∷ []);
}
