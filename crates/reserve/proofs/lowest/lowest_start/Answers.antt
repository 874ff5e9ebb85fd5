-- `lowest_start` searches the process's slots, over its arena.
use Rattle.std.proofs.Common.{◌≡◌, ◌+◌, ◌-◌, arith}
use Rattle.std.proofs.lemmas.Grind.{common_steps}
use Rattle.model.specs.Layout.{machine}
use Rattle.reserve.specs.LowestSpotLaws.{lowest_empty, lowest_large, lowest_searched, arena_ends}
use Rattle.reserve.proofs.lowest.lowest_start.Goals as goal

pub returns-then-len-eq0 : goal.returns-then-len-eq0
returns-then-len-eq0 c = λ fit. lowest_empty (machine c.args.words.now) c.args.process c.args.len _ c.process_at-arena.ensures c.if-len-eq0.true

pub returns-then-arena-len : goal.returns-then-arena-len
returns-then-arena-len c = λ fit. lowest_large (machine c.args.words.now) c.args.process c.args.len _ c.process_at-arena.ensures c.if-len-eq0.false c.if-arena-len.true

pub returns-in_err-last : goal.returns-in_err-last
returns-in_err-last c = λ fit. absurd (arena_ends c.args.words.now c.args.process c.requires.process_bound _ c.process_at-arena.ensures fit (grind (arith, common_steps)))

pub returns : goal.returns
returns c =
    let sum : c.in_ok-last.last ≡ c.process_at-arena.result.start.0 + (c.process_at-arena.result.size - 1) = grind (arith, common_steps) in
    λ fit. lowest_searched (machine c.args.words.now) c.args.process c.args.len _ c.process_at-arena.ensures c.if-len-eq0.false c.if-arena-len.false _ (rw sum at c.lowest_from.ensures)
