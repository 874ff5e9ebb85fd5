-- `is_allowed`: the user bit first, then the write's.
use mathlib.Core.Path.{sym, ◌∙◌}
use Rattle.access.specs.AccessLaws.{kernel_only, load_allowed, store_allowed}
use Rattle.access.proofs.is_allowed.Goals as goal

pub returns-then-not-is_user_accessible : goal.returns-then-not-is_user_accessible
returns-then-not-is_user_accessible c = kernel_only _ c.args.write (sym c.is_user_accessible.ensures ∙ c.if-not-is_user_accessible.true)

pub returns-then-not-write : goal.returns-then-not-write
returns-then-not-write c = load_allowed _ c.args.write (sym c.is_user_accessible.ensures ∙ c.if-not-is_user_accessible.false) c.if-not-write.true

pub returns : goal.returns
returns c = store_allowed _ c.args.write _ (sym c.is_user_accessible.ensures ∙ c.if-not-is_user_accessible.false) c.if-not-write.false c.is_writable.ensures
