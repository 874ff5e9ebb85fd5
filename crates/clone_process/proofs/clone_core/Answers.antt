-- `clone_core`: both processes are open and the regions are cloned, or why not.
use mathlib.Core.Path.{sym, ◌∙◌}
use Rattle.lookup.specs.FirstOfLaws.{open_small}
use Rattle.clone_process.specs.CloneEachLaws.{source_closed, target_closed, clone_done}
use Rattle.clone_process.proofs.clone_core.Goals as goal

pub returns-then-not-is_open : goal.returns-then-not-is_open
returns-then-not-is_open c =
    let from = c.args in
    source_closed from.words.now from.frames.now from.process from.target (sym c.is_open.ensures ∙ c.if-not-is_open.true)

pub returns-then-not-is_open-2 : goal.returns-then-not-is_open-2
returns-then-not-is_open-2 c =
    let from = c.args in
    target_closed from.words.now from.frames.now from.process from.target (sym c.is_open.ensures ∙ c.if-not-is_open.false) (sym c.is_open-2.ensures ∙ c.if-not-is_open-2.true)

pub clone_regions-requires : goal.clone_regions-requires
clone_regions-requires c =
    let from = c.args in
    let source = (sym c.is_open.ensures ∙ c.if-not-is_open.false) in
    let target = (sym c.is_open-2.ensures ∙ c.if-not-is_open-2.false) in record { words_len = c.requires.words_len; sound_frames = c.requires.sound_frames; process_bound = open_small from.words.now from.process source; target_bound = open_small from.words.now from.target target; target_value = target }

pub returns : goal.returns
returns c =
    let from = c.args in
    clone_done from.words.now from.frames.now from.process from.target (sym c.is_open.ensures ∙ c.if-not-is_open.false) (sym c.is_open-2.ensures ∙ c.if-not-is_open-2.false) _ _ _ c.clone_regions.ensures
