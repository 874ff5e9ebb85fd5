-- `populate_call` meets its contract: it is a call if its flag is one.
use mathlib.Core.Path.{refl}
use Rattle.call_words.specs.CallOf.{call_of}
use Rattle.call_words.specs.CallOfLaws.{only_not, only_is, no_flag, is_flag}
use Rattle.call_words.proofs.populate_call.Goals as goal

pub returns-then-args-ge2 : goal.returns-then-args-ge2
unfolding call_of
returns-then-args-ge2 c = only_not _ _ (no_flag _ c.if-args-ge2.true)

pub returns : goal.returns
unfolding call_of
returns c = only_is _ _ _ (is_flag _ c.if-args-ge2.false) refl
