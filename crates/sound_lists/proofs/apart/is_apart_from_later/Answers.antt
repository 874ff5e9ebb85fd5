-- The answer for `is_apart_from_later`: the test of every later slot.
use mathlib.Core.Path.{◌≡◌, refl, ap}
use mathlib.Core.Bool.{Bool, true, false}
use lib.ListN.{get_or}
use Prim.Native.Nat.{ℕ, ◌+◌, ◌*◌, ◌-◌}
use borrow.Author.Rules.{rules}
use borrow.Author.Tests.{tests}
use Rattle.std.proofs.lemmas.Iterator.{cases_from_all, YieldsList-from_range}
use Rattle.model.specs.Layout.{machine}
use Rattle.model.specs.Machine.{no_region}
use Rattle.model.specs.Lookup.{regions_of}
use Rattle.model.specs.SoundTest.{apartb}
use Rattle.lookup.specs.LookupsLaws.{slots_length, slot_at}
use Rattle.sound_lists.specs.EachLaws.{every_rest}
use Rattle.sound_lists.proofs.apart.is_apart_from_later.Goals as goal

pub returns : goal.returns
returns c =
    let a = c.args in
    let w = a.words.now in
    let t : ℕ → Bool = λ i. apartb a.region (get_or (machine w).regions (a.process * 64 + i) no_region) in
    every_rest (apartb a.region) (regions_of (machine w) a.process) no_region (a.slot + 1) 64 (slots_length w a.process c.requires.process_bound) t (λ i h. ap (apartb a.region) (slot_at w a.process i _ h refl)) _ (cases_from_all _ _ _ (λ i. t i ≡ true) (λ i. t i ≡ false) c.all.ensures.ran (YieldsList-from_range (a.slot + 1) 64 (64 - (a.slot + 1)) refl refl) (λ x q k. search (rules, tests)) (λ x q k. search (rules, tests)))
