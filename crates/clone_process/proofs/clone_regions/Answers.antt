-- The answers for `clone_regions`.
use Rattle.std.specs.Prelude.{◌≡◌, Err}
use mathlib.Core.Path.{◌∙◌}
use borrow.Author.Rules.{rules}
use Rattle.clone_process.specs.CloneEachLaws.{cloning_first, cloning_sound, slot_there, cloning_stops, cloning_more, cloning_all}
use Rattle.clone_process.proofs.clone_regions.Goals as goal

pub loop-i-init : goal.loop-i-init
loop-i-init c =
    let from = c.args in
    let count = c.attached_count-count.ensures.value in
    cloning_first from.words.now from.frames.now c.requires.sound_frames from.process from.target c.requires.process_bound c.requires.target_value _ count

pub clone_slot-requires : goal.clone_slot-requires
clone_slot-requires c =
    let from = c.args in
    let count = c.attached_count-count.ensures.value in
    let inv = c.loop-i.invariant in
    let more = c.loop-i-test.true in
    let there = slot_there from.words.now from.frames.now c.requires.sound_frames from.process from.target c.requires.process_bound c.requires.target_value _ count _ _ _ inv more _ c.order_at-slot.ensures in record { words_len = inv.words ∙ c.requires.words_len; sound_frames = cloning_sound from.words.now from.frames.now c.requires.sound_frames from.process from.target c.requires.process_bound c.requires.target_value _ count _ _ _ inv more; process_bound = c.requires.process_bound; slot_bound = there.0; target_bound = c.requires.target_bound; used = there.1 }

pub shape_of-words-in_err-clone_slot : goal.shape_of-words-in_err-clone_slot
shape_of-words-in_err-clone_slot c = c.clone_slot.auto.words ∙ c.loop-i.invariant.words

pub shape_of-frames-in_err-clone_slot : goal.shape_of-frames-in_err-clone_slot
shape_of-frames-in_err-clone_slot c = c.clone_slot.auto.frames ∙ c.loop-i.invariant.frames

pub returns-in_err-clone_slot : goal.returns-in_err-clone_slot
returns-in_err-clone_slot c =
    let from = c.args in
    let count = c.attached_count-count.ensures.value in
    let e : c.from_residual.result ≡ Err c.in_err-clone_slot.field-0.0 = search rules in
    rw e (cloning_stops from.words.now from.frames.now c.requires.sound_frames from.process from.target c.requires.process_bound c.requires.target_value _ count _ _ _ c.loop-i.invariant c.loop-i-test.true _ c.order_at-slot.ensures _ _ _
    c.clone_slot.ensures _ c.in_err-clone_slot.was)

pub loop-i-preserved : goal.loop-i-preserved
loop-i-preserved c =
    let from = c.args in
    let count = c.attached_count-count.ensures.value in
    cloning_more from.words.now from.frames.now c.requires.sound_frames from.process from.target c.requires.process_bound c.requires.target_value _ count _ _ _ c.loop-i.invariant c.loop-i-test.true _ c.order_at-slot.ensures _ _ _
    c.clone_slot.ensures c.in_ok-clone_slot.was c.clone_slot.auto.words c.clone_slot.auto.frames

pub shape_of-words : goal.shape_of-words
shape_of-words c = c.loop-i.invariant.words

pub shape_of-frames : goal.shape_of-frames
shape_of-frames c = c.loop-i.invariant.frames

pub returns : goal.returns
returns c =
    let from = c.args in
    let count = c.attached_count-count.ensures.value in
    cloning_all from.words.now from.frames.now c.requires.sound_frames from.process from.target c.requires.process_bound c.requires.target_value _ count _ _ _ c.loop-i.invariant c.loop-i-test.false
