-- The answers for `cores_loads`.
use Rattle.std.proofs.Common.{sym, refl, ◌∙◌, arith, rules}
use Rattle.calls.specs.AnsweredLaws.{sound_length, sound_frames}
use Rattle.bench_c.specs.Loads.{sum_of}
use Rattle.bench_c.specs.LoadsLaws.{one_more, no_machine, loaded, byte_at_is}
use Rattle.bench_c.proofs.loads.cores_loads.Goals as goal

pub returns-then-not-is_sound : goal.returns-then-not-is_sound
returns-then-not-is_sound c = no_machine _ _ _ _ _ _ (sym c.is_sound.ensures ∙ c.if-not-is_sound.true)

pub loop-i-init : goal.loop-i-init
unfolding sum_of
loop-i-init c = (refl, omega arith)

pub load_core-requires : goal.load_core-requires
load_core-requires c = let told = sym c.is_sound.ensures ∙ c.if-not-is_sound.false in let sized = sound_length _ _ _ told in let lent = sound_frames _ _ _ told in record { words_len = search rules; sound_frames = search rules }

pub loop-i-preserved : goal.loop-i-preserved
loop-i-preserved c = (one_more _ _ _ _ _ c.loop-i.invariant.0 (byte_at_is _ _ _ _ _ 0 (sym c.is_sound.ensures ∙ c.if-not-is_sound.false) _ _ _ _ c.wrapping_add_u64-at.ensures.value c.load_core.ensures c.byte_or_0-byte.ensures) c.wrapping_add_u64-sum.ensures.value, omega arith)

pub returns : goal.returns
returns c = loaded _ _ _ _ _ _ (sym c.is_sound.ensures ∙ c.if-not-is_sound.false) _ _ (omega arith) c.loop-i.invariant.0
