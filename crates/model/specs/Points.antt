-- P1 to P12 and two points of our own, together: one table. That every row of it holds is proofs/Points.
use Rattle.std.specs.Prelude.{List, [], ◌∷◌, ◌++◌}
use Rattle.model.specs.PointTable.{Row}
use Rattle.model.specs.PointRows.{p1_6, p7, p8, p9, p10, p10', p11, p12}
use Rattle.model.specs.RangeRows.{range_page, populates}

-- P7 to P12, P10 in both orders, and our own
unfoldable pub machine_rows : List Row
machine_rows = p7 ∷ p8 ∷ p9 ∷ p10 ∷ p10' ∷ p11 ∷ p12 ∷ range_page ∷ populates ∷ []

-- P1 to P6 before them
unfoldable pub table : List Row
table = p1_6 ++ machine_rows
