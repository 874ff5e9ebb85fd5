-- `store_call` meets its contract: it is a call if its byte is one.
use mathlib.Core.Path.{refl}
use borrow.Author.Tests.{lt-ltb, le-ltb}
use Rattle.call_words.specs.CallOf.{call_of}
use Rattle.call_words.specs.CallOfLaws.{only_not, only_is}
use Rattle.call_words.proofs.store_call.Goals as goal

pub returns-then-byte-ge256 : goal.returns-then-byte-ge256
unfolding call_of
returns-then-byte-ge256 c = only_not _ _ (le-ltb _ 256 c.if-byte-ge256.true)

pub returns : goal.returns
unfolding call_of
returns c = only_is _ _ _ (lt-ltb _ 256 c.if-byte-ge256.false) refl
