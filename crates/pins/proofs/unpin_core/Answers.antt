-- `unpin_core`: the refusals in their order, then the region unpinned.
use mathlib.Core.Path.{sym, ◌∙◌}
use Rattle.lookup.specs.FirstOfLaws.{open_small}
use Rattle.pins.specs.PinCallLaws.{any_small, unpin_closed, unpin_address, unpin_none, unpin_unpinned, unpin_done}
use borrow.Author.Rules.{rules}
use Rattle.pins.proofs.unpin_core.Goals as goal

pub returns-then-not-is_open : goal.returns-then-not-is_open
returns-then-not-is_open c =
    let from = c.args in
    unpin_closed from.words.now from.process from.addr.0 (sym c.is_open.ensures ∙ c.if-not-is_open.true)

pub returns-then-not-is_user : goal.returns-then-not-is_user
returns-then-not-is_user c =
    let from = c.args in
    unpin_address from.words.now from.process from.addr.0 (sym c.is_open.ensures ∙ c.if-not-is_open.false) (sym c.is_user.ensures ∙ c.if-not-is_user.true)

pub any_region_for-requires : goal.any_region_for-requires
any_region_for-requires c =
    let from = c.args in
    let small = open_small from.words.now from.process (sym c.is_open.ensures ∙ c.if-not-is_open.false) in record { words_len = search rules; process_bound = search rules }

pub returns-in_default : goal.returns-in_default
returns-in_default c =
    let from = c.args in
    unpin_none from.words.now from.process from.addr.0 (sym c.is_open.ensures ∙ c.if-not-is_open.false) (sym c.is_user.ensures ∙ c.if-not-is_user.false) (sym c.in_default.is ∙ c.any_region_for.ensures)

pub region_in-region-requires : goal.region_in-region-requires
region_in-region-requires c =
    let from = c.args in
    let small = open_small from.words.now from.process (sym c.is_open.ensures ∙ c.if-not-is_open.false) in record { words_len = search rules; process_bound = search rules }

pub returns-then-region-eq0 : goal.returns-then-region-eq0
returns-then-region-eq0 c =
    let from = c.args in
    unpin_unpinned from.words.now from.process from.addr.0 (sym c.is_open.ensures ∙ c.if-not-is_open.false) (sym c.is_user.ensures ∙ c.if-not-is_user.false) _ (sym c.in-Some.is ∙ c.any_region_for.ensures) _ c.region_in-region.ensures c.if-region-eq0.true

pub unpin_region-requires : goal.unpin_region-requires
unpin_region-requires c =
    let from = c.args in
    let small = open_small from.words.now from.process (sym c.is_open.ensures ∙ c.if-not-is_open.false) in
    let low = any_small from.words.now from.process from.addr.0 _ small (sym c.in-Some.is ∙ c.any_region_for.ensures) in record { words_len = search rules; process_bound = search rules; slot_bound = search rules }

pub returns : goal.returns
returns c =
    let from = c.args in
    unpin_done from.words.now from.process from.addr.0 (sym c.is_open.ensures ∙ c.if-not-is_open.false) (sym c.is_user.ensures ∙ c.if-not-is_user.false) _ (sym c.in-Some.is ∙ c.any_region_for.ensures) _ c.region_in-region.ensures c.if-region-eq0.false _ c.unpin_region.ensures
