-- `flags_fit` is flaggedb.
use Rattle.sound_pages.specs.MappedTestsLaws.{shared_flags, other_flags, writable_flags, fixed_flags}
use mathlib.Core.Path.{sym, ◌∙◌}
use Rattle.sound_pages.proofs.mapped.flags_fit.Goals as goal

pub returns-then-region-eq-SHARED : goal.returns-then-region-eq-SHARED
returns-then-region-eq-SHARED c = shared_flags c.args.region c.args.flags.0 c.args.holders c.if-region-eq-SHARED.true

pub returns-then-not-is_own : goal.returns-then-not-is_own
returns-then-not-is_own c = other_flags c.args.region c.args.flags.0 c.args.holders c.if-region-eq-SHARED.false (sym c.is_own.ensures ∙ c.if-not-is_own.true)

pub returns-then-is_writable : goal.returns-then-is_writable
returns-then-is_writable c = writable_flags c.args.region c.args.flags.0 c.args.holders c.if-region-eq-SHARED.false (sym c.is_own.ensures ∙ c.if-not-is_own.false) (sym c.is_writable.ensures ∙ c.if-is_writable.true)

pub returns : goal.returns
returns c = fixed_flags c.args.region c.args.flags.0 c.args.holders c.if-region-eq-SHARED.false (sym c.is_own.ensures ∙ c.if-not-is_own.false) (sym c.is_writable.ensures ∙ c.if-is_writable.false)
