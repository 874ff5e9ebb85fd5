-- The answers for `place_for`.
use native.Mathlib.Omega.{arith}
use Rattle.model.specs.Layout.{machine}
use Rattle.sound_pages.specs.MappedRowsLaws.{held_first, held_here, held_more, held_none}
use Rattle.sound_pages.proofs.mapped.place_for.Goals as goal

pub loop-i-init : goal.loop-i-init
loop-i-init c = held_first (machine c.args.words.now) c.args.process c.args.addr.0 c.args.from

pub order_at-slot-requires : goal.order_at-slot-requires
order_at-slot-requires c = record { words_len = c.requires.words_len; i_bound = omega (arith, c.requires.process_bound, c.requires.to_bound) }

pub slot_contains-requires : goal.slot_contains-requires
slot_contains-requires c = record { words_len = c.requires.words_len; process_bound = c.requires.process_bound }

pub returns-then-slot_contains : goal.returns-then-slot_contains
returns-then-slot_contains c = held_here (machine c.args.words.now) c.args.process c.args.addr.0 c.args.from c.loop-i.i _ c.order_at-slot.ensures _ c.slot_contains.ensures c.args.to c.loop-i-test.true c.if-slot_contains.true

pub loop-i-preserved : goal.loop-i-preserved
loop-i-preserved c = held_more (machine c.args.words.now) c.args.process c.args.addr.0 c.args.from c.loop-i.i _ c.order_at-slot.ensures _ c.slot_contains.ensures c.loop-i.invariant c.if-slot_contains.false

pub returns : goal.returns
returns c = held_none (machine c.args.words.now) c.args.process c.args.addr.0 c.args.from c.loop-i.i c.args.to c.loop-i.invariant c.loop-i-test.false
