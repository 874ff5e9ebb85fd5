-- `clone_region_core`: the region that is named is cloned, or why not.
use Rattle.std.specs.Prelude.{◌≡◌, Err}
use borrow.Author.Rules.{rules}
use Rattle.clone_region.specs.CloneCallLaws.{clone_named, call_refused, call_cloned}
use Rattle.clone_region.proofs.clone_region_core.Goals as goal

pub returns-in_err-slot : goal.returns-in_err-slot
returns-in_err-slot c =
    let from = c.args in
    let e : c.from_residual.result ≡ Err c.in_err-slot.field-0.0 = search rules in
    rw e (call_refused from.words.now from.process from.addr.0 from.target from.frames.now c.requires.sound_frames _ c.cloned_region.ensures _ c.in_err-slot.was)

pub clone_into-requires : goal.clone_into-requires
clone_into-requires c =
    let from = c.args in
    let named = clone_named from.words.now from.process from.addr.0 from.target from.frames.now c.requires.sound_frames _ c.cloned_region.ensures _ c.in_ok-slot.was in record { words_len = c.requires.words_len; sound_frames = c.requires.sound_frames; process_bound = named.0; slot_bound = named.1.1.0; target_bound = named.1.0; slot_nonzero = named.1.1.1 }

pub returns : goal.returns
returns c =
    let from = c.args in
    call_cloned from.words.now from.process from.addr.0 from.target from.frames.now c.requires.sound_frames _ c.cloned_region.ensures _ c.in_ok-slot.was _ _ _ c.clone_into.ensures
