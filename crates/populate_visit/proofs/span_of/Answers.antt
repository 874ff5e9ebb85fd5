-- `span_of`: one law for each test that decides.
use Rattle.std.proofs.lemmas.Bool.{not_from_true, not_from_false}
use native.Mathlib.Omega.{arith}
use Rattle.populate_visit.specs.PageWalkLaws.{span_empty, span_long, span_hole, span_upper, span_to}
use Rattle.populate_visit.proofs.span_of.Goals as goal

pub returns-then-len-eq0 : goal.returns-then-len-eq0
returns-then-len-eq0 c = span_empty _ _ c.if-len-eq0.true

pub returns-then-len-addr : goal.returns-then-len-addr
returns-then-len-addr c = span_long c.args.addr.0 c.args.len c.if-len-eq0.false c.if-len-addr.true (omega arith)

pub returns-then-not-is_canonical : goal.returns-then-not-is_canonical
returns-then-not-is_canonical c = span_hole c.args.addr.0 c.args.len c.if-len-eq0.false c.if-len-addr.false (omega arith) _ c.is_canonical.ensures.test (not_from_false _ c.if-not-is_canonical.true)

pub returns-then-not-is_user : goal.returns-then-not-is_user
returns-then-not-is_user c = span_upper c.args.addr.0 c.args.len c.if-len-eq0.false c.if-len-addr.false (omega arith) _ c.is_canonical.ensures.test (not_from_true _ c.if-not-is_canonical.false) _ c.is_user.ensures (not_from_false _ c.if-not-is_user.true)

pub returns : goal.returns
returns c = span_to c.args.addr.0 c.args.len c.if-len-eq0.false c.if-len-addr.false (omega arith) _ c.is_canonical.ensures.test (not_from_true _ c.if-not-is_canonical.false) _ c.is_user.ensures (not_from_true _ c.if-not-is_user.false)
