-- `one_if_shared` is 1 for a Shared region, else 0.
use Rattle.sound_frames.specs.HeldLaws.{shared_one, unshared_none}
use Rattle.sound_frames.proofs.held.one_if_shared.Goals as goal

pub returns-then-kind-eq-SHARED : goal.returns-then-kind-eq-SHARED
returns-then-kind-eq-SHARED c = shared_one _ c.if-kind-eq-SHARED.true

pub returns : goal.returns
returns c = unshared_none _ c.if-kind-eq-SHARED.false
