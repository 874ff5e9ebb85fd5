-- `is_own` is is_own.
use Rattle.sound_pages.specs.MappedTestsLaws.{own_flags, not_own}
use Rattle.sound_pages.proofs.mapped.is_own.Goals as goal

pub returns-then-flags-own : goal.returns-then-flags-own
returns-then-flags-own c = own_flags c.args.own.0 c.args.flags.0 c.if-flags-own.true

pub returns : goal.returns
returns c = not_own c.args.own.0 c.args.flags.0 c.if-flags-own.false _ c.read_only-without.ensures
