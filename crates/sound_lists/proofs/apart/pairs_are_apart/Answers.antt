-- The answer for `pairs_are_apart`: the test of every slot.
use mathlib.Core.Path.{◌≡◌, refl, sym, ◌∙◌}
use mathlib.Core.Bool.{Bool, true, false}
use lib.ListN.{get_or}
use Prim.Native.Nat.{ℕ}
use borrow.Author.Rules.{rules}
use borrow.Author.Tests.{tests}
use Rattle.std.proofs.lemmas.Iterator.{cases_from_all, YieldsList-from_range}
use Rattle.model.specs.Layout.{machine}
use Rattle.model.specs.Machine.{no_region}
use Rattle.model.specs.Lookup.{regions_of, is_used}
use Rattle.model.specs.SoundTest.{apartb}
use Rattle.lookup.specs.LookupsLaws.{slots_length}
use Rattle.laws.specs.Tests.{later}
use Rattle.laws.specs.TestLaws.{pairs_rows}
use Rattle.sound_lists.specs.EachLaws.{every_row}
use Rattle.sound_lists.proofs.apart.pairs_are_apart.Goals as goal

pub returns : goal.returns
returns c =
    let a = c.args in
    let l = regions_of (machine a.words.now) a.process in
    let t : ℕ → Bool = λ i. later is_used apartb l i (get_or l i no_region) in
    every_row (later is_used apartb l) l no_region 64 (slots_length a.words.now a.process c.requires.process_bound) t (λ i h. refl) _ (cases_from_all _ _ _ (λ i. t i ≡ true) (λ i. t i ≡ false) c.all.ensures.ran (YieldsList-from_range 0 64 64 refl refl) (λ x q k. search (rules, tests)) (λ x q k. search (rules, tests))) ∙ sym (pairs_rows is_used apartb l)
