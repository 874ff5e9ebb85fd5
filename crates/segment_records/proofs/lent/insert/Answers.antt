-- The answers for `insert`.
use Rattle.std.proofs.Common.{◌≡◌, ◌+◌, ◌-◌, ℕ, zero, suc, List, refl, ap, sym, ◌∙◌, arith, get_or, set, ltb, length}
use Rattle.segment.specs.declared.Segment.{Segment}
use Rattle.segments.specs.Table.{no_segment}
use Rattle.segment_records.specs.declared.by_value.Insertion.{Insertion}
use Rattle.segment_records.specs.Records.{carrying_of, carried_on, carry_over}
use Rattle.segment_records.specs.RecordsLaws.{insert_all, turns_tell}
use Rattle.segment_records.proofs.lent.insert.Goals as goal

-- one turn less is left once row i has what was carried
one_less : (count left k i : ℕ) (c : Insertion) (t : List Segment) → left ≡ suc k → carry_over count k (i + 1) (carried_on c i count (get_or t i no_segment)) (set t i (carried_on c i count (get_or t i no_segment)).row) ≡ carry_over count left i c t
unfolding carry_over
one_less count left k i c t e = ap (λ (j : ℕ). carry_over count j i c t) (sym e)

-- the rows stay where no turn is left
none_left : (count left i : ℕ) (c : Insertion) (t : List Segment) → left ≡ 0 → carry_over count left i c t ≡ t
unfolding carry_over
none_left count zero i c t h = refl
none_left count (suc k) i c t h = absurd (omega arith)

pub loop-i-preserved : goal.loop-i-preserved
loop-i-preserved c =
    record {
      inside = omega arith;
      same_rows = ap (λ (d : Insertion). carry_over c.args.count (c.turns-n.result - (c.loop-i.i + 1)) (c.loop-i.i + 1) d (set c.loop-i.segments c.loop-i.i d.row)) c.carried-c.ensures
          ∙ one_less c.args.count (c.turns-n.result - c.loop-i.i) (c.turns-n.result - (c.loop-i.i + 1)) c.loop-i.i c.loop-i.c c.loop-i.segments (omega arith)
          ∙ c.loop-i.invariant.same_rows;
    }

pub returns : goal.returns
returns c = (
  ap (ltb 0) c.turns-n.ensures ∙ turns_tell c.args.count (length c.args.segments.now),
  sym (none_left c.args.count (c.turns-n.result - c.loop-i.i) c.loop-i.i c.loop-i.c c.loop-i.segments (omega arith))
      ∙ c.loop-i.invariant.same_rows
      ∙ ap (λ (k : ℕ). carry_over c.args.count k 0 (carrying_of c.args.s) c.args.segments.now) c.turns-n.ensures
      ∙ insert_all c.args.count c.args.s c.args.segments.now,
)
