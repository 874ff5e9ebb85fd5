-- The table's rule in one pass that keeps three numbers: what the code asks of a row (RULES S12; RowRuleLaws: rises-walks).
use Rattle.std.specs.Prelude.{Bool, true, false, not, ◌&&◌, ◌||◌, cond, List, [], ◌∷◌, ℕ, ◌-◌, eqb, ltb, leb}
use Rattle.segment.specs.declared.Segment.{Segment}
use Rattle.segment.specs.Form.{start_of, last_of, emptyb, form_of, done}
use Rattle.segments_lent.specs.declared.table.Floor.{Floor}

abbrev pub no_floor : Floor
no_floor = record { any = false; last = 0; prev = 0 }

-- an empty row starts above the row before it, another above all that the rows so far hold and not below the row before it
abbrev pub clearsb : Floor → Bool → Segment → Bool
clearsb f started s = cond (emptyb s) (not started || ltb f.prev (start_of s)) (not f.any || ltb f.last (start_of s))

abbrev pub restsb : Floor → Bool → Segment → Bool
restsb f started s = done (form_of s) && clearsb f started s

-- past an empty row no row starts below it
abbrev pub raised_to : Floor → ℕ → Floor
raised_to f start =
    cond (eqb start 0 || (f.any && leb (start - 1) f.last)) (record { any = f.any; last = f.last; prev = start })
    (record { any = true; last = start - 1; prev = start })

abbrev pub floor_with : Floor → Segment → Floor
floor_with f s = cond (emptyb s) (raised_to f (start_of s)) (record { any = true; last = last_of s; prev = start_of s })

unfoldable pub rises : List Segment → Bool → Floor → Bool
rises [] started f = true
rises (s ∷ t) started f = restsb f started s && rises t true (floor_with f s)
