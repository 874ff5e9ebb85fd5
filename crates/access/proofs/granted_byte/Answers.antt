-- `granted_byte`: one law for each test that decides.
use mathlib.Core.Path.{sym, ◌∙◌}
use native.Mathlib.Omega.{arith}
use Rattle.lookup.specs.FirstOfLaws.{open_small}
use Rattle.access.specs.AccessLaws.{access_closed, access_address, access_unmapped, access_disallowed, access_allowed}
use borrow.Author.Rules.{rules}
use Rattle.access.proofs.granted_byte.Goals as goal

pub returns-then-not-is_open : goal.returns-then-not-is_open
returns-then-not-is_open c = access_closed _ _ _ _ (sym c.is_open.ensures ∙ c.if-not-is_open.true)

pub returns-then-not-is_user : goal.returns-then-not-is_user
returns-then-not-is_user c = access_address _ _ _ _ (sym c.is_open.ensures ∙ c.if-not-is_open.false) (sym c.is_user.ensures ∙ c.if-not-is_user.true)

pub translate-requires : goal.translate-requires
translate-requires c = let small = open_small _ _ (sym c.is_open.ensures ∙ c.if-not-is_open.false) in record { words_len = search rules; process_bound = search rules }

pub returns-in_default : goal.returns-in_default
returns-in_default c = access_unmapped _ _ _ _ (sym c.is_open.ensures ∙ c.if-not-is_open.false) (sym c.is_user.ensures ∙ c.if-not-is_user.false) c.requires.sound_words _ c.containing_address-page.ensures _ c.translate.ensures c.in_default.is

pub returns-then-not-is_allowed : goal.returns-then-not-is_allowed
returns-then-not-is_allowed c = access_disallowed _ _ _ _ (sym c.is_open.ensures ∙ c.if-not-is_open.false) (sym c.is_user.ensures ∙ c.if-not-is_user.false) c.requires.sound_words _ c.containing_address-page.ensures _ c.translate.ensures _ c.in-Some.is _ c.is_allowed.ensures c.if-not-is_allowed.true

pub address_at-requires : goal.address_at-requires
address_at-requires c = let inside = c.page_offset.ensures in omega arith

pub returns : goal.returns
returns c = access_allowed _ _ _ _ (sym c.is_open.ensures ∙ c.if-not-is_open.false) (sym c.is_user.ensures ∙ c.if-not-is_user.false) c.requires.sound_words _ c.containing_address-page.ensures _ c.translate.ensures _ c.in-Some.is _ c.is_allowed.ensures c.if-not-is_allowed.false _ c.page_offset.ensures _ c.address_at.ensures
