-- The answer for `paged`: the test of every process.
use mathlib.Core.Path.{◌≡◌, refl}
use mathlib.Core.Bool.{Bool, true, false}
use lib.ListN.{get_or}
use Prim.Native.Nat.{ℕ}
use borrow.Author.Rules.{rules}
use borrow.Author.Tests.{tests}
use Rattle.std.proofs.lemmas.Iterator.{cases_from_all, YieldsList-from_range}
use Rattle.model.specs.Layout.{machine}
use Rattle.model.specs.Machine.{no_process}
use Rattle.model.specs.SoundTest.{pagedb}
use Rattle.lookup.specs.LookupsLaws.{processes_length}
use Rattle.sound_lists.specs.EachLaws.{every_row}
use Rattle.sound_lists.proofs.pages.paged.Goals as goal

pub returns : goal.returns
returns c =
    let m = machine c.args.words.now in
    let t : ℕ → Bool = λ i. pagedb m i (get_or m.processes i no_process) in
    every_row (pagedb m) m.processes no_process 8 (processes_length c.args.words.now) t (λ i h. refl) _ (cases_from_all _ _ _ (λ i. t i ≡ true) (λ i. t i ≡ false) c.all.ensures.ran (YieldsList-from_range 0 8 8 refl refl) (λ x q k. search (rules, tests)) (λ x q k. search (rules, tests)))
