-- `word_list::word_at` meets its contract. The invariant: the word at the places left is the word.
use mathlib.Core.Path.{◌≡◌}
use Prim.Native.Nat.{◌-◌, ◌≤◌}
use lib.ListN.{length}
use Rattle.call_text.specs.WordList.{nth_from, nth_in}
use Rattle.call_text.proofs.word_list.word_at.Given as goal

abbrev pub invariant-loop-i : goal.invariant-loop-i
invariant-loop-i l = (l.at ≤ length l.list) × (nth_from (l.place - l.i) l.list l.at ≡ nth_in l.list l.place)
