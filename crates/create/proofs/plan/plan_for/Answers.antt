-- `plan_for`: what is asked for refuses, or the searches decide.
use Rattle.std.proofs.lemmas.Result.{err_from_is_err_and}
use mathlib.Core.Path.{sym, ◌∙◌}
use Rattle.model.specs.Layout.{machine}
use Rattle.lookup.specs.FirstOfLaws.{open_small}
use Rattle.create.specs.RequestRefusedLaws.{request_open, request_size}
use Rattle.create.specs.PlansLaws.{plan_refused, plan_searched}
use borrow.Author.Rules.{rules}
use Rattle.create.proofs.plan.plan_for.Goals as goal

pub returns-in_err-request_refusal : goal.returns-in_err-request_refusal
returns-in_err-request_refusal c =
    let a = c.args in
    let p = err_from_is_err_and c.from_residual.result c.from_residual.ensures.1 in
    rw (p.1, p.2) (plan_refused (machine a.words.now) a.process a.place a.eager a.region _ (sym c.in_err-request_refusal.was ∙ c.request_refusal.ensures))

pub search-requires : goal.search-requires
search-requires c = let a = c.args in let w = a.words.now in let fine = sym c.in_ok-request_refusal.was ∙ c.request_refusal.ensures in let small = open_small w a.process (request_open (machine w) a.process a.place a.region fine) in let size = request_size (machine w) a.process a.place a.region fine in record { words_len = search rules; sound_words = search rules; process_bound = search rules; size_bound = search rules }

pub returns : goal.returns
returns c = let a = c.args in plan_searched (machine a.words.now) a.process a.place a.eager a.region (sym c.in_ok-request_refusal.was ∙ c.request_refusal.ensures) _ c.search.ensures
