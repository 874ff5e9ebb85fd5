-- `ends_by` compares a segment's end with an address.
use mathlib.Core.Path.{ap, ◌∙◌}
use Prim.Native.Nat.{ℕ, ◌-◌, ◌/◌}
use lib.Dec.{leb}
use Rattle.model.specs.Lookup.{pages_for}
use Rattle.sound_lists.specs.ApartLaws.{ends_past, ends_before}
use Rattle.sound_lists.proofs.apart.ends_by.Goals as goal

pub returns-then-start-addr : goal.returns-then-start-addr
returns-then-start-addr c = let a = c.args in ap (λ (n : ℕ). leb n ((a.addr - a.start) / 4096)) c.pages_for.ensures ∙ ends_past a.start (pages_for a.size) a.addr c.if-start-addr.true

pub returns : goal.returns
returns c = let a = c.args in ends_before a.start (pages_for a.size) a.addr c.if-start-addr.false
