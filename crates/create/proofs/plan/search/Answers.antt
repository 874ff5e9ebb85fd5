-- `search`: one law for each search that decides.
use Rattle.std.proofs.lemmas.Result.{err_from_is_err_and}
use Rattle.answers.specs.declared.Refusal.TheVariants.{TableFull}
use mathlib.Core.Path.{◌≡◌, ap, sym, ◌∙◌}
use native.Mathlib.Omega.{arith}
use Rattle.std.specs.Prelude.{Some, None}
use Rattle.model.specs.Layout.{machine}
use Rattle.create.specs.ReadyLaws.{words_spot}
use Rattle.reserve.specs.LowestSpot.{found_spot}
use Rattle.create.specs.PlansLaws.{search_spot, search_run, search_slot, search_all}
use Rattle.create.proofs.plan.search.Goals as goal

pub returns-in_err-start : goal.returns-in_err-start
returns-in_err-start c =
    let a = c.args in
    let w = a.words.now in
    let p = err_from_is_err_and c.from_residual.result c.from_residual.ensures.1 in
    let same : c.in_err-start.field-0.0 ≡ c.spot_refusal-no_spot.result = grind arith in
    rw (p.1, p.2, same) (let is-spot = words_spot w c.requires.sound_words a.process a.place _ _ _ c.spot-at.ensures (c.segment_len.ensures c.requires.size_bound) in search_spot (machine w) a.process a.place a.eager a.region (let none : c.spot-at.result ≡ None = grind arith in ap found_spot (sym none) ∙ is-spot) _ c.spot_refusal-no_spot.ensures)

pub returns-then-lacks_run : goal.returns-then-lacks_run
returns-then-lacks_run c = let a = c.args in let w = a.words.now in let is-spot = words_spot w c.requires.sound_words a.process a.place _ _ _ c.spot-at.ensures (c.segment_len.ensures c.requires.size_bound) in search_run (machine w) a.process a.place a.eager a.region _ (let some : c.spot-at.result ≡ Some c.in_ok-start.start = grind arith in ap found_spot (sym some) ∙ is-spot) c.run_for-run.result c.run_for-run.ensures _ c.lacks_run.ensures c.if-lacks_run.true

pub returns-in_err-slot : goal.returns-in_err-slot
returns-in_err-slot c =
    let a = c.args in
    let w = a.words.now in
    let p = err_from_is_err_and c.from_residual-in_err-slot.result c.from_residual-in_err-slot.ensures.1 in
    let same : c.in_err-slot.field-0.0 ≡ TableFull = grind arith in
    rw (p.1, p.2, same) (let is-spot = words_spot w c.requires.sound_words a.process a.place _ _ _ c.spot-at.ensures (c.segment_len.ensures c.requires.size_bound) in search_slot (machine w) a.process a.place a.eager a.region _ (let some : c.spot-at.result ≡ Some c.in_ok-start.start = grind arith in ap found_spot (sym some) ∙ is-spot) c.run_for-run.result c.run_for-run.ensures _ c.lacks_run.ensures c.if-lacks_run.false (let none : c.free_slot-free.result ≡ None = grind arith in sym none ∙ c.free_slot-free.ensures))

pub returns : goal.returns
returns c = let a = c.args in let w = a.words.now in let is-spot = words_spot w c.requires.sound_words a.process a.place _ _ _ c.spot-at.ensures (c.segment_len.ensures c.requires.size_bound) in search_all (machine w) a.process a.place a.eager a.region _ (let some : c.spot-at.result ≡ Some c.in_ok-start.start = grind arith in ap found_spot (sym some) ∙ is-spot) c.run_for-run.result c.run_for-run.ensures _ c.lacks_run.ensures c.if-lacks_run.false _ (let some : c.free_slot-free.result ≡ Some c.in_ok-slot.slot = grind arith in sym some ∙ c.free_slot-free.ensures)
