-- `are_flags` meets its contract.
use Rattle.call_words.specs.CallOfLaws.{no_flag, is_flag}
use Rattle.call_words.proofs.are_flags.Goals as goal

pub returns-then-c-lt2 : goal.returns-then-c-lt2
returns-then-c-lt2 c = rw (is_flag _ c.if-a-lt2.true, is_flag _ c.if-b-lt2.true, is_flag _ c.if-c-lt2.true)

pub returns-else-c-lt2 : goal.returns-else-c-lt2
returns-else-c-lt2 c = rw (is_flag _ c.if-a-lt2.true, is_flag _ c.if-b-lt2.true, no_flag _ c.if-c-lt2.false)

pub returns-else-b-lt2 : goal.returns-else-b-lt2
returns-else-b-lt2 c = rw (is_flag _ c.if-a-lt2.true, no_flag _ c.if-b-lt2.false)

pub returns-else-a-lt2 : goal.returns-else-a-lt2
returns-else-a-lt2 c = rw (no_flag _ c.if-a-lt2.false)
