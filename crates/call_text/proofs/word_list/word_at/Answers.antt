-- The answers for `word_at`.
use mathlib.Core.Path.{◌∙◌}
use native.Mathlib.Omega.{arith}
use Rattle.call_text.specs.WordListLaws.{nth_start, nth_more, nth_here}
use Rattle.call_text.proofs.word_list.word_at.Goals as goal

pub loop-i-init : goal.loop-i-init
loop-i-init c = (omega arith, nth_start c.args.list.now c.args.place)

pub loop-i-preserved : goal.loop-i-preserved
loop-i-preserved c = (omega arith, nth_more c.args.list.now c.args.place c.loop-i.i c.loop-i.at c.loop-i-test.true c.next_word-at.result c.next_word-at.ensures.value ∙ c.loop-i.invariant.1)

pub returns : goal.returns
returns c = record { value = nth_here c.args.list.now c.args.place c.loop-i.i c.loop-i.at c.loop-i-test.false c.next_word.result c.next_word.ensures.value ∙ c.loop-i.invariant.1; in_list = record { ordered = omega arith; ends = omega arith } }
