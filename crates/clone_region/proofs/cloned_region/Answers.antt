-- `cloned_region`: the refusals that name processes and the region, in their order.
use mathlib.Core.Path.{sym, ◌∙◌}
use Rattle.lookup.specs.FirstOfLaws.{open_small}
use Rattle.clone_region.specs.CloneCallLaws.{source_closed, target_closed, clone_address, clone_found}
use borrow.Author.Rules.{rules}
use Rattle.clone_region.proofs.cloned_region.Goals as goal

pub returns-then-not-is_open : goal.returns-then-not-is_open
returns-then-not-is_open c =
    let from = c.args in
    source_closed from.words.now from.process from.addr.0 from.target (sym c.is_open.ensures ∙ c.if-not-is_open.true)

pub returns-then-not-is_open-2 : goal.returns-then-not-is_open-2
returns-then-not-is_open-2 c =
    let from = c.args in
    target_closed from.words.now from.process from.addr.0 from.target (sym c.is_open.ensures ∙ c.if-not-is_open.false) (sym c.is_open-2.ensures ∙ c.if-not-is_open-2.true)

pub returns-then-not-is_user : goal.returns-then-not-is_user
returns-then-not-is_user c =
    let from = c.args in
    clone_address from.words.now from.process from.addr.0 from.target (sym c.is_open.ensures ∙ c.if-not-is_open.false) (sym c.is_open-2.ensures ∙ c.if-not-is_open-2.false) (sym c.is_user.ensures ∙ c.if-not-is_user.true)

pub region_for-requires : goal.region_for-requires
region_for-requires c =
    let from = c.args in
    let small = open_small from.words.now from.process (sym c.is_open.ensures ∙ c.if-not-is_open.false) in record { words_len = search rules; process_bound = search rules }

pub returns : goal.returns
returns c =
    let from = c.args in
    c.ok_or.ensures.value ∙ clone_found from.words.now from.process from.addr.0 from.target (sym c.is_open.ensures ∙ c.if-not-is_open.false) (sym c.is_open-2.ensures ∙ c.if-not-is_open-2.false) (sym c.is_user.ensures ∙ c.if-not-is_user.false) _ c.region_for.ensures
