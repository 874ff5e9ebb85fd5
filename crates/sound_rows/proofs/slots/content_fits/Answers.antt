-- `content_fits` is content_fits.
use mathlib.Core.Path.{ap, ◌∙◌}
use Prim.Native.Nat.{ℕ}
use borrow.Author.Tests.{eq-eqb, ne_eqb}
use Rattle.laws.specs.TestChainLaws.{first_asked, second_asked}
use Rattle.sound_rows.specs.SlotRow.{file_part, content_fits}
use Rattle.sound_rows.proofs.slots.content_fits.Goals as goal

pub returns-then-region-eq-FILE_BACKED : goal.returns-then-region-eq-FILE_BACKED
unfolding content_fits
returns-then-region-eq-FILE_BACKED c = first_asked _ (eq-eqb _ 2 c.if-region-eq-FILE_BACKED.true) (c.file_part.ensures ∙ ap (λ (n : ℕ). file_part n c.args.region) c.file_count-files.ensures)

pub returns : goal.returns
unfolding content_fits
returns c = second_asked _ (ne_eqb _ 2 c.if-region-eq-FILE_BACKED.false) c.no_file_part.ensures
