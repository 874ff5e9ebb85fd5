-- `protectable`: the refusals of protect, in their order.
use mathlib.Core.Path.{sym, ◌∙◌}
use Rattle.lookup.specs.FirstOfLaws.{open_small}
use Rattle.protect.specs.ProtectCallLaws.{good_by_test, bad_by_test, protect_closed, protect_address, protect_flags, protect_none, protect_shared, protect_some}
use borrow.Author.Rules.{rules}
use Rattle.protect.proofs.protectable.Goals as goal

pub returns-then-not-is_open : goal.returns-then-not-is_open
returns-then-not-is_open c =
    let from = c.args in
    protect_closed from.words.now from.process from.addr.0 from.flags (sym c.is_open.ensures ∙ c.if-not-is_open.true)

pub returns-then-not-is_user : goal.returns-then-not-is_user
returns-then-not-is_user c =
    let from = c.args in
    protect_address from.words.now from.process from.addr.0 from.flags (sym c.is_open.ensures ∙ c.if-not-is_open.false) (sym c.is_user.ensures ∙ c.if-not-is_user.true)

pub returns-then-is_none : goal.returns-then-is_none
returns-then-is_none c =
    let from = c.args in
    protect_flags from.words.now from.process from.addr.0 from.flags (sym c.is_open.ensures ∙ c.if-not-is_open.false) (sym c.is_user.ensures ∙ c.if-not-is_user.false) (bad_by_test _ _ c.from_bits.ensures c.if-is_none.ensures)

pub region_for-requires : goal.region_for-requires
region_for-requires c =
    let from = c.args in
    let small = open_small from.words.now from.process (sym c.is_open.ensures ∙ c.if-not-is_open.false) in record { words_len = search rules; process_bound = search rules }

pub returns-in_default : goal.returns-in_default
returns-in_default c =
    let from = c.args in
    protect_none from.words.now from.process from.addr.0 from.flags (sym c.is_open.ensures ∙ c.if-not-is_open.false) (sym c.is_user.ensures ∙ c.if-not-is_user.false) (good_by_test _ _ c.from_bits.ensures c.if-is_none.ensures) (sym c.in_default.is ∙ c.region_for.ensures)

pub region_in-region-requires : goal.region_in-region-requires
region_in-region-requires c =
    let from = c.args in
    let small = open_small from.words.now from.process (sym c.is_open.ensures ∙ c.if-not-is_open.false) in record { words_len = search rules; process_bound = search rules }

pub returns-then-region-eq-SHARED : goal.returns-then-region-eq-SHARED
returns-then-region-eq-SHARED c =
    let from = c.args in
    protect_shared from.words.now from.process from.addr.0 from.flags (sym c.is_open.ensures ∙ c.if-not-is_open.false) (sym c.is_user.ensures ∙ c.if-not-is_user.false) (good_by_test _ _ c.from_bits.ensures c.if-is_none.ensures) _ (sym c.in-Some.is ∙ c.region_for.ensures) _ c.region_in-region.ensures c.if-region-eq-SHARED.true

pub returns : goal.returns
returns c =
    let from = c.args in
    protect_some from.words.now from.process from.addr.0 from.flags (sym c.is_open.ensures ∙ c.if-not-is_open.false) (sym c.is_user.ensures ∙ c.if-not-is_user.false) (good_by_test _ _ c.from_bits.ensures c.if-is_none.ensures) _ (sym c.in-Some.is ∙ c.region_for.ensures) _ c.region_in-region.ensures c.if-region-eq-SHARED.false
