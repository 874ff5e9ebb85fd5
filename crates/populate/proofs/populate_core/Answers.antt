-- `populate_core`: one law for each test that decides, and the walk.
use Rattle.std.proofs.lemmas.Bool.{not_from_true, not_from_false}
use mathlib.Core.Path.{sym, ◌∙◌}
use Rattle.lookup.specs.FirstOfLaws.{open_small}
use Rattle.populate.specs.PopulatedLaws.{user_low, last_low, populate_closed, populate_address, populate_upper, populate_nothing, populate_visits}
use borrow.Author.Rules.{rules}
use Rattle.populate.proofs.populate_core.Goals as goal

pub returns-then-not-is_open : goal.returns-then-not-is_open
returns-then-not-is_open c = populate_closed _ _ _ c.requires.files_value _ c.args.addr.0 c.args.len c.args.write _ c.is_open.ensures (not_from_false _ c.if-not-is_open.true)

pub returns-then-not-is_user : goal.returns-then-not-is_user
returns-then-not-is_user c = populate_address _ _ _ c.requires.files_value _ c.args.addr.0 c.args.len c.args.write _ c.is_open.ensures (not_from_true _ c.if-not-is_open.false) _ c.is_user.ensures (not_from_false _ c.if-not-is_user.true)

pub span_of-requires : goal.span_of-requires
span_of-requires c = user_low _ _ c.is_user.ensures (not_from_true _ c.if-not-is_user.false)

pub returns-in-Upper : goal.returns-in-Upper
returns-in-Upper c = populate_upper _ _ _ c.requires.files_value _ c.args.addr.0 c.args.len c.args.write _ c.is_open.ensures (not_from_true _ c.if-not-is_open.false) _ c.is_user.ensures (not_from_true _ c.if-not-is_user.false) _ c.span_of.ensures c.in-Upper.is

pub returns-in-Nothing : goal.returns-in-Nothing
returns-in-Nothing c = populate_nothing _ _ _ c.requires.files_value _ c.args.addr.0 c.args.len c.args.write _ c.is_open.ensures (not_from_true _ c.if-not-is_open.false) _ c.is_user.ensures (not_from_true _ c.if-not-is_user.false) _ c.span_of.ensures c.in-Nothing.is

pub visit-requires : goal.visit-requires
visit-requires c = record { words_len = search rules; files_value = c.requires.files_value; process_bound = open_small _ _ (sym c.is_open.ensures ∙ c.if-not-is_open.false); last_bound = last_low _ _ _ c.span_of.ensures _ c.in-To.is _ c.containing_address-last_page.ensures }

pub returns-in-To : goal.returns-in-To
returns-in-To c = populate_visits _ _ _ c.requires.files_value _ c.args.addr.0 c.args.len c.args.write _ c.is_open.ensures (not_from_true _ c.if-not-is_open.false) _ c.is_user.ensures (not_from_true _ c.if-not-is_user.false) _ c.span_of.ensures _ c.in-To.is _ _ c.containing_address-first_page.ensures c.containing_address-last_page.ensures _ _ _ c.visit.ensures
