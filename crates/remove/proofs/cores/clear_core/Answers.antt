-- `clear_core`: the regions of an open process are removed, or there is no such process.
use Rattle.std.proofs.lemmas.Result.{err_from_is_err_and}
use mathlib.Core.Path.{sym, ◌∙◌}
use Rattle.lookup.specs.NamedLaws.{process_yes}
use Rattle.remove.specs.RemoveCallLaws.{clear_refused, clear_done}
use borrow.Author.Rules.{rules}
use Rattle.remove.proofs.cores.clear_core.Goals as goal

pub returns-in_err-process_refusal : goal.returns-in_err-process_refusal
returns-in_err-process_refusal c =
    let p = err_from_is_err_and c.from_residual.result c.from_residual.ensures.1 in
    rw (p.1, p.2) (clear_refused _ _ _ (sym c.in_err-process_refusal.was ∙ c.process_refusal.ensures))

pub clear-requires : goal.clear-requires
clear-requires c = let small = process_yes _ _ (sym c.in_ok-process_refusal.was ∙ c.process_refusal.ensures) in record { words_len = search rules; process_bound = search rules }

pub returns : goal.returns
returns c = clear_done _ _ (sym c.in_ok-process_refusal.was ∙ c.process_refusal.ensures) _ c.clear.ensures
