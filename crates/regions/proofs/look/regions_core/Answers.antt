-- `regions_core`: zeros, then the process is refused, or its list is put.
use mathlib.Core.Path.{sym, ◌∙◌}
use Rattle.lookup.specs.NamedLaws.{process_yes}
use Rattle.regions.specs.LookLaws.{regions_refused, regions_answered}
use borrow.Author.Rules.{rules}
use Rattle.regions.proofs.look.regions_core.Goals as goal

pub returns-in-Err : goal.returns-in-Err
returns-in-Err c = regions_refused _ _ _ (sym c.in-Err.is ∙ c.process_refusal.ensures) _ c.put_zeros.ensures

pub put_starts-requires : goal.put_starts-requires
put_starts-requires c = let small = process_yes _ _ (sym c.in-Ok.is ∙ c.process_refusal.ensures) in record { words_len = search rules; starts_value = search rules; process_bound = search rules }

pub returns-in-Ok : goal.returns-in-Ok
returns-in-Ok c = regions_answered _ _ (sym c.in-Ok.is ∙ c.process_refusal.ensures) _ c.put_starts.ensures
