-- The answers for `mark_entries`.
use native.Mathlib.Omega.{arith}
use Rattle.model.specs.Layout.{machine}
use Rattle.sound_pages.specs.MappedSpansLaws.{seen_from, seen_to}
use Rattle.sound_pages.specs.MappedEntriesLaws.{after_fits, after_misfit, after_last}
use borrow.Author.Rules.{rules}
use Rattle.sound_pages.proofs.mapped.mark_entries.Goals as goal

pub loop-i-init : goal.loop-i-init
loop-i-init c = let a = c.args in (c.requires.marks_len, λ laid span seen. seen_from (machine a.words.now) a.process a.from a.to span _ c.requires.from_bound.0 seen)

pub returns-in_default : goal.returns-in_default
returns-in_default c = λ laid span seen. after_misfit (machine c.args.words.now) c.args.process _ _ _ (c.mark_entry.ensures laid (c.loop-i.invariant.1 laid span seen)) c.in_default.is _

pub loop-i-preserved : goal.loop-i-preserved
loop-i-preserved c = (search rules, λ laid span seen. after_fits (machine c.args.words.now) c.args.process _ _ _ (c.mark_entry.ensures laid (c.loop-i.invariant.1 laid span seen)) _ c.in-Some.is)

pub returns : goal.returns
returns c = let a = c.args in λ laid span seen. after_last (machine a.words.now) a.process 512 _ (omega arith) (omega arith) (seen_to (machine a.words.now) a.process a.from a.to span _ c.loop-i.i c.loop-i-test.false (c.loop-i.invariant.1 laid span seen))
