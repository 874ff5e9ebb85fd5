-- `region_named`: one law for each test that decides.
use mathlib.Core.Path.{sym, ◌∙◌}
use Rattle.std.specs.Prelude.{Some, None}
use Rattle.lookup.specs.FirstOfLaws.{open_small}
use Rattle.lookup.specs.NamedLaws.{region_closed, region_address, region_or}
use borrow.Author.Rules.{rules}
use Rattle.lookup.proofs.named.region_named.Goals as goal

pub returns-then-not-is_open : goal.returns-then-not-is_open
returns-then-not-is_open c = region_closed _ _ _ (sym c.is_open.ensures ∙ c.if-not-is_open.true)

pub returns-then-not-is_user : goal.returns-then-not-is_user
returns-then-not-is_user c = region_address _ _ _ (sym c.is_open.ensures ∙ c.if-not-is_open.false) (sym c.is_user.ensures ∙ c.if-not-is_user.true)

pub region_for-requires : goal.region_for-requires
region_for-requires c = let small = open_small _ _ (sym c.is_open.ensures ∙ c.if-not-is_open.false) in record { words_len = search rules; process_bound = search rules }

pub returns-in_default : goal.returns-in_default
returns-in_default c = region_or _ _ _ (sym c.is_open.ensures ∙ c.if-not-is_open.false) (sym c.is_user.ensures ∙ c.if-not-is_user.false) None (sym c.in_default.is ∙ c.region_for.ensures)

pub returns : goal.returns
returns c = region_or _ _ _ (sym c.is_open.ensures ∙ c.if-not-is_open.false) (sym c.is_user.ensures ∙ c.if-not-is_user.false) (Some _) (sym c.in-Some.is ∙ c.region_for.ensures)
