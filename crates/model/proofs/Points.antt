-- P1 to P12 and two points of our own, together: one statement of the table in specs/Points, proved by computing the definitions.
use Rattle.std.specs.Prelude.{◌≡◌, refl, Bool, true, ℕ, ◌<◌, length, get_or}
use Rattle.segments.specs.Points as segments
use Rattle.laws.specs.Lists.{all}
use Rattle.laws.specs.TestLaws.{tells_all, tells_bool}
use Rattle.model.specs.Open.{everything}
use Rattle.model.specs.PointTable.{Row, Holds, holdsb}
use Rattle.laws.specs.BoolLaws.{and_both}
use Rattle.laws.specs.ListsLaws.{all_both}
use Rattle.model.specs.PointTableLaws.{holds_told}
use Rattle.model.specs.PointRows.{p1_6, p7, p8, p9, p10, p10', p11, p12, unstarted}
use Rattle.model.specs.RangeRows.{range_page, populates, opened}
use Rattle.model.specs.Points.{machine_rows, table}

rowb : Row → Bool
rowb r = holdsb r.events r.from

p1_6_hold : all rowb p1_6 ≡ true
unfolding everything rowb p1_6 unstarted segments.points
p1_6_hold = refl

p7_holds : rowb p7 ≡ true
unfolding everything rowb p7 unstarted
p7_holds = refl

p8_holds : rowb p8 ≡ true
unfolding everything rowb p8 unstarted
p8_holds = refl

p9_holds : rowb p9 ≡ true
unfolding everything rowb p9 unstarted
p9_holds = refl

p10_holds : rowb p10 ≡ true
unfolding everything rowb p10 unstarted
p10_holds = refl

p10'_holds : rowb p10' ≡ true
unfolding everything rowb p10' unstarted
p10'_holds = refl

p11_holds : rowb p11 ≡ true
unfolding everything rowb p11 unstarted
p11_holds = refl

p12_holds : rowb p12 ≡ true
unfolding everything rowb p12 unstarted
p12_holds = refl

range_page_holds : rowb range_page ≡ true
unfolding everything rowb range_page unstarted opened
range_page_holds = refl

populates_holds : rowb populates ≡ true
unfolding everything rowb populates unstarted opened
populates_holds = refl

machine_rows_hold : all rowb machine_rows ≡ true
unfolding all machine_rows
machine_rows_hold =
    and_both p7_holds (and_both p8_holds (and_both p9_holds (and_both p10_holds (and_both p10'_holds (
    and_both p11_holds (and_both p12_holds (and_both range_page_holds (and_both populates_holds refl))))))))

all_hold : all rowb table ≡ true
unfolding table
all_hold = all_both rowb p1_6 machine_rows p1_6_hold machine_rows_hold

-- every row of the table holds: each call answers what the row says, and each look sees it
pub points : (i : ℕ) → i < length table → Holds (get_or table i p7).events (get_or table i p7).from
unfolding rowb
points i h = holds_told _ _ ((tells_all p7 rowb (λ r. rowb r ≡ true) (λ r. tells_bool (rowb r)) table).yes all_hold i h)
