-- `file_part` is file_part.
use mathlib.Core.Path.{refl}
use borrow.Author.Tests.{lt-ltb, le-ltb, le-leb, lt-leb}
use Rattle.laws.specs.TestChainLaws.{fails, passes}
use Rattle.sound_rows.specs.SumsLaws.{sum_past, sum_over, sum_within}
use Rattle.sound_rows.proofs.slots.file_part.Goals as goal

pub returns-then-files-region : goal.returns-then-files-region
returns-then-files-region c = fails _ (le-ltb _ _ c.if-files-region.true)

pub returns-then-region-gt281474976710656 : goal.returns-then-region-gt281474976710656
returns-then-region-gt281474976710656 c = passes (lt-ltb _ _ c.if-files-region.false) (fails _ (sum_past _ _ _ c.if-region-gt281474976710656.true))

pub returns-then-region : goal.returns-then-region
returns-then-region c = passes (lt-ltb _ _ c.if-files-region.false) (fails _ (sum_over _ _ _ c.if-region.true))

pub returns-then-region-2 : goal.returns-then-region-2
returns-then-region-2 c = passes (lt-ltb _ _ c.if-files-region.false) (passes (sum_within _ _ _ c.if-region-gt281474976710656.false c.if-region.false) (fails _ (lt-leb _ _ c.if-region-2.true)))

pub returns : goal.returns
returns c = passes (lt-ltb _ _ c.if-files-region.false) (passes (sum_within _ _ _ c.if-region-gt281474976710656.false c.if-region.false) (passes (le-leb _ _ c.if-region-2.false) refl))
