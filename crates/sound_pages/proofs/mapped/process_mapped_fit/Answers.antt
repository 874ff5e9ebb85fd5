-- `process_mapped_fit` is all_fit: of no mapped page, of one that its entry does not allow, and by the marks of all.
use Rattle.model.specs.Layout.{machine}
use Rattle.sound_pages.specs.MappedEntriesLaws.{seen_first, all_marked, some_misfit}
use Rattle.sound_pages.specs.MappedRowsLaws.{none_mapped}
use Rattle.sound_pages.proofs.mapped.process_mapped_fit.Goals as goal

pub returns-then-n-eq0 : goal.returns-then-n-eq0
returns-then-n-eq0 c = λ laid span. none_mapped (machine c.args.words.now) c.args.process _ c.mapped_count-n.ensures.value c.if-n-eq0.true

pub returns-then-not-mark_entries : goal.returns-then-not-mark_entries
returns-then-not-mark_entries c = let a = c.args in λ laid span. some_misfit (machine a.words.now) a.process _ _ (c.mark_entries.ensures laid span (seen_first a.words.now a.process c.requires.process_bound)) c.if-not-mark_entries.true

pub returns : goal.returns
returns c = let a = c.args in λ laid span. c.rows_fit.ensures laid (all_marked (machine a.words.now) a.process _ _ (c.mark_entries.ensures laid span (seen_first a.words.now a.process c.requires.process_bound)) c.if-not-mark_entries.false)
