-- The answer for `places_are_zero`: the test of every place from one on.
use mathlib.Core.Path.{◌≡◌, refl, sym, ap}
use mathlib.Core.Bool.{Bool, true, false}
use lib.ListN.{get_or}
use Prim.Native.Nat.{ℕ, ◌+◌, ◌*◌, ◌-◌}
use borrow.Author.Rules.{rules}
use borrow.Author.Tests.{tests}
use Rattle.std.proofs.lemmas.Iterator.{cases_from_all, YieldsList-from_range}
use Rattle.model.specs.Layout.{machine}
use Rattle.laws.specs.Lists.{part}
use Rattle.laws.specs.ListsLaws.{part_at}
use Rattle.sound_lists.specs.ListOrder.{is_zero}
use Rattle.lookup.specs.AttachedLaws.{places_length}
use Rattle.sound_lists.specs.EachLaws.{every_rest}
use Rattle.sound_lists.proofs.lists.places_are_zero.Goals as goal

pub returns : goal.returns
returns c =
    let a = c.args in
    let m = machine a.words.now in
    let t : ℕ → Bool = λ i. is_zero (get_or m.order (a.process * 64 + i) 0) in
    every_rest is_zero (part 64 a.process m.order) 0 a.from 64 (places_length a.words.now a.process c.requires.process_bound) t (λ i h. ap is_zero (sym (part_at m.order 64 a.process i 0 h))) _ (cases_from_all _ _ _ (λ i. t i ≡ true) (λ i. t i ≡ false) c.all.ensures.ran (YieldsList-from_range a.from 64 (64 - a.from) refl refl) (λ x q k. search (rules, tests)) (λ x q k. search (rules, tests)))
