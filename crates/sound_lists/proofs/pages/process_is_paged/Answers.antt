-- `process_is_paged` is pagedb.
use mathlib.Core.Path.{sym, ◌∙◌}
use Rattle.model.specs.Layout.{machine}
use Rattle.sound_lists.specs.PageOrderLaws.{paged_no, paged_if}
use Rattle.sound_lists.proofs.pages.process_is_paged.Goals as goal

pub returns-then-not-pages_rise : goal.returns-then-not-pages_rise
returns-then-not-pages_rise c = paged_no (machine c.args.words.now) c.args.process (sym c.pages_rise.ensures ∙ c.if-not-pages_rise.true)

pub returns : goal.returns
returns c = c.rows_are_free.ensures ∙ paged_if (machine c.args.words.now) c.args.process (sym c.pages_rise.ensures ∙ c.if-not-pages_rise.false) _ c.mapped_count-n.ensures.value
