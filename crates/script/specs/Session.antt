-- What holds of a session from line to line.
use Rattle.std.specs.Prelude.{◌≡◌, ℕ, ◌≤◌}
use Rattle.script.specs.declared.session.Session.{Session}
use Rattle.script_step.specs.MachineStep.{Lends}

-- the line that is held lies in its buffer, the answers in theirs, which has room for the longest answer, the machine in its memory, and 64 starts in theirs
pub record Kept (s : Session) (line out frames files starts : ℕ) : Type 0 where
  pub held : s.held.len ≤ line
  pub at : s.output.at ≤ out
  pub room : 4096 ≤ out
  pub lends : Lends s.machine frames files
  pub listed : starts ≡ 64

-- what is read and not yet looked at lies in its buffer
abbrev pub Reads : Session → ℕ → Type 0
Reads s input = (s.from ≤ s.to) × (s.to ≤ input)
