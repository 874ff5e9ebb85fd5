-- The answer for `unmarked_are_pinned`: the test of every slot.
use mathlib.Core.Path.{◌≡◌, refl, ap}
use mathlib.Core.Bool.{Bool, true, false}
use lib.ListN.{get_or}
use Prim.Native.Nat.{ℕ, ◌+◌, ◌*◌}
use borrow.Author.Rules.{rules}
use borrow.Author.Tests.{tests}
use Rattle.std.proofs.lemmas.Iterator.{cases_from_all, YieldsList-from_range}
use Rattle.model.specs.Layout.{machine}
use Rattle.model.specs.Machine.{no_region}
use Rattle.model.specs.Lookup.{regions_of}
use Rattle.lookup.specs.LookupsLaws.{slots_length, slot_at}
use Rattle.sound_lists.specs.ListOrder.{pinned_if_unmarked}
use Rattle.sound_lists.specs.EachLaws.{every_row}
use Rattle.sound_lists.proofs.lists.unmarked_are_pinned.Goals as goal

pub returns : goal.returns
returns c =
    let a = c.args in
    let w = a.words.now in
    let t : ℕ → Bool = λ i. pinned_if_unmarked (get_or a.marks.now i 0) (get_or (machine w).regions (a.process * 64 + i) no_region) in
    every_row (λ s x. pinned_if_unmarked (get_or a.marks.now s 0) x) (regions_of (machine w) a.process) no_region 64 (slots_length w a.process c.requires.process_bound) t (λ i h. ap (pinned_if_unmarked (get_or a.marks.now i 0)) (slot_at w a.process i _ h refl)) _ (cases_from_all _ _ _ (λ i. t i ≡ true) (λ i. t i ≡ false) c.all.ensures.ran (YieldsList-from_range 0 64 64 refl refl) (λ x q k. search (rules, tests)) (λ x q k. search (rules, tests)))
