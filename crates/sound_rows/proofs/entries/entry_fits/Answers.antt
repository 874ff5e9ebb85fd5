-- `entry_fits` is entry_fits.
use borrow.Author.Tests.{eq-eqb, ne_eqb}
use Rattle.model.specs.Layout.{machine}
use Rattle.model.specs.SoundTest.{entry_fits}
use Rattle.laws.specs.TestChainLaws.{first_asked, second_asked}
use Rattle.sound_rows.specs.EntryRowLaws.{no_owner}
use Rattle.sound_rows.proofs.entries.entry_fits.Goals as goal

pub returns-then-entry-eq0 : goal.returns-then-entry-eq0
unfolding entry_fits
returns-then-entry-eq0 c = first_asked _ (eq-eqb _ 0 c.if-entry-eq0.true) c.is_free_entry.ensures

pub returns-then-entry : goal.returns-then-entry
unfolding entry_fits
returns-then-entry c = second_asked _ (ne_eqb _ 0 c.if-entry-eq0.false) (no_owner (machine c.args.words.now) c.args.entry c.if-entry.true)

pub returns : goal.returns
unfolding entry_fits
returns c = second_asked _ (ne_eqb _ 0 c.if-entry-eq0.false) c.entered.ensures
