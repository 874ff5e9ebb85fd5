-- `eager_core`: the process is not open, or the tour.
use Rattle.std.proofs.lemmas.Result.{err_from_is_err_and}
use mathlib.Core.Path.{sym, ◌∙◌}
use Rattle.lookup.specs.NamedLaws.{process_yes}
use Rattle.populate_eager.specs.TourLaws.{eager_refused, eager_done}
use borrow.Author.Rules.{rules}
use Rattle.populate_eager.proofs.eager_core.Goals as goal

pub returns-in_err-process_refusal : goal.returns-in_err-process_refusal
returns-in_err-process_refusal c =
    let p = err_from_is_err_and c.from_residual.result c.from_residual.ensures.1 in
    rw (p.1, p.2) (eager_refused _ _ _ c.requires.files_value _ _ (sym c.in_err-process_refusal.was ∙ c.process_refusal.ensures))

pub populate_eager_copies-requires : goal.populate_eager_copies-requires
populate_eager_copies-requires c = record { words_len = search rules; files_value = c.requires.files_value; process_bound = process_yes _ _ (sym c.in_ok-process_refusal.was ∙ c.process_refusal.ensures) }

pub returns : goal.returns
returns c = eager_done _ _ _ c.requires.files_value _ (sym c.in_ok-process_refusal.was ∙ c.process_refusal.ensures) _ _ _ c.populate_eager_copies.ensures
