-- The answers for `remove`.
use Rattle.std.proofs.Common.{◌≡◌, ◌+◌, ◌-◌, ℕ, zero, suc, List, refl, ap, sym, ◌∙◌, arith, get_or, set}
use Rattle.segment.specs.declared.Segment.{Segment}
use Rattle.segments.specs.Table.{no_segment}
use Rattle.segment_records.specs.Records.{removable, move_down}
use Rattle.segment_records.specs.RecordsLaws.{remove_all}
use Rattle.segment_records.proofs.lent.remove.Goals as goal

-- one turn less is left once row i has the one above it
one_less : (left k i : ℕ) (t : List Segment) → left ≡ suc k → move_down k (i + 1) (set t i (get_or t (i + 1) no_segment)) ≡ move_down left i t
unfolding move_down
one_less left k i t e = ap (λ (j : ℕ). move_down j i t) (sym e)

-- the rows stay where no turn is left
none_left : (left i : ℕ) (t : List Segment) → left ≡ 0 → move_down left i t ≡ t
unfolding move_down
none_left zero i t h = refl
none_left (suc k) i t h = absurd (omega arith)

pub loop-i-preserved : goal.loop-i-preserved
loop-i-preserved c =
    record {
      from = omega arith;
      same_rows = one_less (c.end-n.result - c.loop-i.i) (c.end-n.result - (c.loop-i.i + 1)) c.loop-i.i c.loop-i.segments (omega arith) ∙ c.loop-i.invariant.same_rows;
    }

pub returns : goal.returns
returns c = (
  c.removes.ensures ∙ ap (λ (k : ℕ). removable k c.args.count c.args.at) c.loop-i.auto.segments,
  sym (none_left (c.end-n.result - c.loop-i.i) c.loop-i.i c.loop-i.segments (omega arith))
      ∙ c.loop-i.invariant.same_rows
      ∙ ap (λ (k : ℕ). move_down (k - c.args.at) c.args.at c.args.segments.now) c.end-n.ensures
      ∙ remove_all c.args.count c.args.at c.args.segments.now,
)
