-- Our own points beside the edges: one table, one statement, proved by computing the definitions.
use Rattle.std.specs.Prelude.{◌≡◌, refl, Bool, true, List, [], ◌∷◌, ℕ, ◌<◌, length, get_or}
use Rattle.laws.specs.Lists.{all}
use Rattle.laws.specs.TestLaws.{tells_all, tells_bool}
use Rattle.model.specs.Open.{everything}
use Rattle.model.specs.PointTable.{Row, Holds, holdsb}
use Rattle.laws.specs.BoolLaws.{and_both}
use Rattle.model.specs.PointTableLaws.{holds_told}
use Rattle.model.specs.PointRows.{unstarted}
use Rattle.model.specs.RangeRows.{opened}
use Rattle.model_points.specs.EdgeRows.{file_end, unreadable, carve_full, carve_in_use, carve_range, detached_unpin, clone_order, exact_size, rights, sealed, doomed, fork, broken, crowded}

unfoldable pub table : List Row
table = file_end ∷ unreadable ∷ carve_full ∷ carve_in_use ∷ carve_range ∷ detached_unpin ∷ clone_order ∷ exact_size ∷ rights ∷ sealed ∷ doomed ∷ fork ∷ broken ∷ []

rowb : Row → Bool
rowb r = holdsb r.events r.from

file_end_holds : rowb file_end ≡ true
unfolding everything rowb file_end unstarted opened
file_end_holds = refl

unreadable_holds : rowb unreadable ≡ true
unfolding everything rowb unreadable unstarted opened
unreadable_holds = refl

carve_full_holds : rowb carve_full ≡ true
unfolding everything rowb carve_full unstarted opened crowded
carve_full_holds = refl

carve_in_use_holds : rowb carve_in_use ≡ true
unfolding everything rowb carve_in_use unstarted opened
carve_in_use_holds = refl

carve_range_holds : rowb carve_range ≡ true
unfolding everything rowb carve_range unstarted opened
carve_range_holds = refl

detached_unpin_holds : rowb detached_unpin ≡ true
unfolding everything rowb detached_unpin unstarted opened
detached_unpin_holds = refl

clone_order_holds : rowb clone_order ≡ true
unfolding everything rowb clone_order unstarted opened crowded
clone_order_holds = refl

exact_size_holds : rowb exact_size ≡ true
unfolding everything rowb exact_size unstarted opened
exact_size_holds = refl

rights_holds : rowb rights ≡ true
unfolding everything rowb rights unstarted opened
rights_holds = refl

sealed_holds : rowb sealed ≡ true
unfolding everything rowb sealed unstarted opened
sealed_holds = refl

doomed_holds : rowb doomed ≡ true
unfolding everything rowb doomed unstarted opened
doomed_holds = refl

fork_holds : rowb fork ≡ true
unfolding everything rowb fork unstarted opened
fork_holds = refl

broken_holds : rowb broken ≡ true
unfolding everything rowb broken unstarted opened
broken_holds = refl

all_hold : all rowb table ≡ true
unfolding all table
all_hold =
    and_both file_end_holds (and_both unreadable_holds (and_both carve_full_holds (and_both carve_in_use_holds (and_both carve_range_holds (
    and_both detached_unpin_holds (and_both clone_order_holds (and_both exact_size_holds (and_both rights_holds (
    and_both sealed_holds (and_both doomed_holds (and_both fork_holds (and_both broken_holds refl))))))))))))

-- every row of the table holds: each call answers what the row says, and each look sees it
pub points : (i : ℕ) → i < length table → Holds (get_or table i file_end).events (get_or table i file_end).from
unfolding rowb
points i h = holds_told _ _ ((tells_all file_end rowb (λ r. rowb r ≡ true) (λ r. tells_bool (rowb r)) table).yes all_hold i h)
