-- `Session::ran` meets its contract: the manager's calls leave the machine, the machine's keep it lent.
use Rattle.std.proofs.Common.{refl}
use Rattle.script.specs.SessionLaws.{lends_as}
use Rattle.script.proofs.session.Session.ran.Goals as goal

pub returns-in-Lone : goal.returns-in-Lone
returns-in-Lone c = record { held_value = (c.managed.ensures.held_value.0, c.managed.ensures.held_value.1); lends_2 = lends_as _ _ _ _ c.managed.ensures.held_value.2 c.requires; by_index = c.managed.ensures.by_index }

pub returns : goal.returns
returns c = record { held_value = (refl, refl); lends_2 = c.step-stepped.ensures.lends; by_index = λ input x. x }
