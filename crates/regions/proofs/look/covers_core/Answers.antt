-- `covers_core`: the process is refused, or its regions cover the range or do not.
use mathlib.Core.Path.{sym, ◌∙◌}
use Rattle.std.specs.Prelude.{◌≡◌, Err}
use Rattle.lookup.specs.NamedLaws.{process_yes}
use Rattle.regions.specs.LookLaws.{covers_refused, covers_answered}
use borrow.Author.Rules.{rules}
use Rattle.regions.proofs.look.covers_core.Goals as goal

pub returns-in_err-process_refusal : goal.returns-in_err-process_refusal
returns-in_err-process_refusal c = let e : c.from_residual.result ≡ Err c.in_err-process_refusal.field-0.0 = search rules in rw e (covers_refused _ _ _ _ _ (sym (c.in_err-process_refusal.was) ∙ c.process_refusal.ensures))

pub covers-requires : goal.covers-requires
covers-requires c = let small = process_yes _ _ (sym (c.in_ok-process_refusal.was) ∙ c.process_refusal.ensures) in record { words_len = search rules; process_bound = search rules }

pub returns : goal.returns
returns c = covers_answered _ _ _ _ (sym (c.in_ok-process_refusal.was) ∙ c.process_refusal.ensures) _ c.covers.ensures
