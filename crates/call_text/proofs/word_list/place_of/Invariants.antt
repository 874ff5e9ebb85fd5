-- `word_list::place_of` meets its contract. The invariant: behind the words passed, the place among those left is the place among all.
use Rattle.std.proofs.Common.{◌≡◌, ◌-◌, ◌≤◌, length}
use Rattle.call_text.specs.WordList.{place_from}
use Rattle.call_text.specs.WordListLaws.{behind}
use Rattle.call_text.proofs.word_list.place_of.Given as goal

abbrev pub invariant-loop-i : goal.invariant-loop-i
invariant-loop-i l = record {
  inside : l.at ≤ length l.list;
  same : behind l.i (place_from (l.count - l.i) l.list l.at l.word) ≡ place_from l.count l.list 0 l.word;
}
