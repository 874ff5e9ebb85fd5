-- `mapped_fit` tests every process. The invariant: those that are left give the same answer.
use Rattle.model.specs.Layout.{machine}
use Rattle.laws.specs.Loops.{Every}
use Rattle.sound_pages.specs.Laid.{Laid}
use Rattle.sound_pages.specs.MappedFit.{all_fit}
use Rattle.sound_pages.proofs.mapped.mapped_fit.Given as goal

abbrev pub invariant-loop-i : goal.invariant-loop-i
invariant-loop-i l = Laid (machine l.words) → Every (λ p q. all_fit (machine l.words) p) (machine l.words).processes 8 l.i
