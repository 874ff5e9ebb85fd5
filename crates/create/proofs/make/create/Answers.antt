-- `create`: refused as planned, or made as planned.
use Rattle.std.proofs.lemmas.Result.{err_from_is_err_and}
use Rattle.model.specs.Layout.{machine}
use Rattle.lookup.specs.FirstOfLaws.{open_small}
use Rattle.create.specs.PlansLaws.{plan_open, plan_fits}
use Rattle.create.specs.MadeLaws.{create_refused, create_made}
use borrow.Author.Rules.{rules}
use Rattle.create.proofs.make.create.Goals as goal

pub returns-in_err-plan : goal.returns-in_err-plan
returns-in_err-plan c =
    let a = c.args in
    let p = err_from_is_err_and c.from_residual.result c.from_residual.ensures.1 in
    rw (p.1, p.2) (create_refused a.words.now a.frames.now a.process a.place a.eager a.region _ c.plan_for.ensures _ c.in_err-plan.was)

pub make-requires : goal.make-requires
make-requires c = let a = c.args in let w = a.words.now in let small = open_small w a.process (plan_open (machine w) a.process a.place a.eager a.region _ c.plan_for.ensures _ c.in_ok-plan.was) in let fits = plan_fits (machine w) a.process a.place a.eager a.region _ c.plan_for.ensures _ c.in_ok-plan.was in record { words_len = search rules; sound_frames = search rules; process_bound = search rules; plan_fits = search rules }

pub returns : goal.returns
returns c = let a = c.args in create_made a.words.now a.frames.now a.process a.place a.eager a.region _ c.plan_for.ensures _ c.in_ok-plan.was _ _ c.make.ensures
