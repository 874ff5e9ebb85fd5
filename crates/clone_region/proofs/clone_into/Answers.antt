-- `clone_into`: refused, copied, or shared.
use Rattle.std.specs.Prelude.{◌≡◌, Err}
use borrow.Author.Rules.{rules}
use Rattle.clone_region.specs.CloneWayLaws.{clone_refused, may_copy, clone_copied, may_share, clone_shared}
use Rattle.clone_region.proofs.clone_into.Goals as goal

pub returns-in_err-free : goal.returns-in_err-free
returns-in_err-free c =
    let from = c.args in
    let e : c.from_residual.result ≡ Err c.in_err-free.field-0.0 = search rules in
    rw e (clone_refused from.words.now from.frames.now c.requires.sound_frames from.process from.slot from.target c.requires.slot_nonzero _ c.region_in-region.ensures _ c.clone_way.ensures _ c.in_err-free.was)

pub copy_into-requires : goal.copy_into-requires
copy_into-requires c =
    let from = c.args in record { words_len = c.requires.words_len; process_bound = c.requires.process_bound; slot_bound = c.requires.slot_bound; target_bound = c.requires.target_bound; copyable = may_copy from.words.now from.frames.now c.requires.sound_frames from.process from.slot from.target c.requires.slot_nonzero _ c.region_in-region.ensures _ c.clone_way.ensures _ c.in_ok-free.was c.if-region-eq-COPY_EAGER.true }

pub returns-then-region-eq-COPY_EAGER : goal.returns-then-region-eq-COPY_EAGER
returns-then-region-eq-COPY_EAGER c =
    let from = c.args in
    clone_copied from.words.now from.frames.now c.requires.sound_frames from.process from.slot from.target c.requires.slot_nonzero _ c.region_in-region.ensures _ c.clone_way.ensures _ c.in_ok-free.was c.if-region-eq-COPY_EAGER.true _ _ c.copy_into.ensures

pub share_into-requires : goal.share_into-requires
share_into-requires c =
    let from = c.args in record { words_len = c.requires.words_len; process_bound = c.requires.process_bound; slot_bound = c.requires.slot_bound; target_bound = c.requires.target_bound; cloneable = may_share from.words.now from.frames.now c.requires.sound_frames from.process from.slot from.target c.requires.slot_nonzero _ c.region_in-region.ensures _ c.clone_way.ensures _ c.in_ok-free.was c.if-region-eq-COPY_EAGER.false }

pub returns : goal.returns
returns c =
    let from = c.args in
    clone_shared from.words.now from.frames.now c.requires.sound_frames from.process from.slot from.target c.requires.slot_nonzero _ c.region_in-region.ensures _ c.clone_way.ensures _ c.in_ok-free.was c.if-region-eq-COPY_EAGER.false _ c.share_into.ensures
