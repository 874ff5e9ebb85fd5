-- The answers for `place_of`.
use Rattle.std.proofs.Common.{sym, ◌∙◌, arith}
use Rattle.call_text.specs.WordListLaws.{place_here, place_more, place_none}
use Rattle.call_text.proofs.word_list.place_of.Goals as goal

pub returns-then-eq-clause-value : goal.returns-then-eq-clause-value
returns-then-eq-clause-value c =
    let a = c.args in
    let w = c.next_word-listed in
    let l = c.loop-i in
    place_here a.list.now a.word.now a.count l.i l.at c.loop-i-test.true w.result w.ensures.value (sym c.eq.ensures ∙ c.if-eq.true) ∙ l.invariant.same

pub loop-i-preserved : goal.loop-i-preserved
loop-i-preserved c =
    let a = c.args in
    let w = c.next_word-listed in
    let l = c.loop-i in
    record {
      inside = omega arith;
      same = place_more a.list.now a.word.now a.count l.i l.at c.loop-i-test.true w.result w.ensures.value (sym c.eq.ensures ∙ c.if-eq.false) ∙ l.invariant.same;
    }

pub returns-clause-value : goal.returns-clause-value
returns-clause-value c =
    let a = c.args in
    let l = c.loop-i in
    place_none a.list.now a.word.now a.count l.i l.at c.loop-i-test.false ∙ l.invariant.same
