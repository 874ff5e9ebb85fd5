-- `carve_one`: refused, or split.
use Rattle.std.specs.Prelude.{◌≡◌, refl, Err}
use mathlib.Core.Path.{sym, ◌∙◌}
use borrow.Author.Rules.{rules}
use Rattle.carve_cut.proofs.one.carve_one.Goals as goal

pub returns-in_err-split_refusal : goal.returns-in_err-split_refusal
returns-in_err-split_refusal c = let e : c.from_residual.result ≡ Err c.in_err-split_refusal.field-0.0 = search rules in record { value = e ∙ sym c.in_err-split_refusal.was ∙ c.split_refusal.ensures; words_after = rw e refl }
