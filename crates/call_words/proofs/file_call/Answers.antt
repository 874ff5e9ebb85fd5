-- `file_call` meets its contract: it is a call if its flags are.
use mathlib.Core.Path.{sym, ◌∙◌}
use Rattle.call_words.specs.CallOf.{file_of}
use Rattle.call_words.specs.CallOfLaws.{only_not, only_is, file_as}
use Rattle.call_words.proofs.file_call.Goals as goal

pub returns-then-not-are_flags : goal.returns-then-not-are_flags
unfolding file_of
returns-then-not-are_flags c = only_not _ _ (sym c.are_flags.ensures ∙ c.if-not-are_flags.true)

pub returns : goal.returns
unfolding file_of
returns c = only_is _ _ _ (sym c.are_flags.ensures ∙ c.if-not-are_flags.false) (file_as c.place_of.ensures c.fork_of.ensures)
