-- The answer for `rows_are_free`: the test of every row from a place on.
use mathlib.Core.Path.{◌≡◌, refl, sym, ap}
use mathlib.Core.Bool.{Bool, true, false}
use lib.ListN.{get_or}
use Prim.Native.Nat.{ℕ, ◌+◌, ◌*◌, ◌-◌}
use borrow.Author.Rules.{rules}
use borrow.Author.Tests.{tests}
use Rattle.std.proofs.lemmas.Iterator.{cases_from_all, YieldsList-from_range}
use Rattle.model.specs.Layout.{machine}
use Rattle.laws.specs.Lists.{part}
use Rattle.laws.specs.ListsLaws.{part_at}
use Rattle.model.specs.Machine.{no_mapping}
use Rattle.model.specs.SoundTest.{free_mapping}
use Rattle.sound_lists.specs.PageOrderLaws.{pages_length}
use Rattle.sound_lists.specs.EachLaws.{every_rest}
use Rattle.sound_lists.proofs.pages.rows_are_free.Goals as goal

pub returns : goal.returns
returns c =
    let a = c.args in
    let m = machine a.words.now in
    let t : ℕ → Bool = λ i. free_mapping (get_or m.mapped (a.process * 128 + i) no_mapping) in
    every_rest free_mapping (part 128 a.process m.mapped) no_mapping a.from 128 (pages_length a.words.now a.process c.requires.process_bound) t (λ i h. ap free_mapping (sym (part_at m.mapped 128 a.process i no_mapping h))) _ (cases_from_all _ _ _ (λ i. t i ≡ true) (λ i. t i ≡ false) c.all.ensures.ran (YieldsList-from_range a.from 128 (128 - a.from) refl refl) (λ x q k. search (rules, tests)) (λ x q k. search (rules, tests)))
