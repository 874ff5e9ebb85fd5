-- Laws of `Session`: what holds of a session from line to line.
use Rattle.std.specs.Prelude.{◌≡◌, ℕ, ◌≤◌}
use Rattle.std.proofs.Common.{sym, subst, arith}
use Rattle.text.specs.declared.lines.Held.{Held}
use Rattle.script_step.specs.declared.machine.Machine.{Machine}
use Rattle.script_step.specs.MachineStep.{Lends}
use Rattle.script.specs.declared.session.Session.{Session}
use Rattle.script.specs.Session.{Kept}

-- buffers of the same lengths
pub kept_in : (s : Session) (l l' o o' f f' b b' r r' : ℕ) → l ≡ l' → o ≡ o' → f ≡ f' → b ≡ b' → r ≡ r' → Kept s l o f b r → Kept s l' o' f' b' r'
kept_in s l l' o o' f f' b b' r r' p q t u v k =
    subst (λ (x : ℕ). Kept s x o' f' b' r') p
    (subst (λ (x : ℕ). Kept s l x f' b' r') q
    (subst (λ (x : ℕ). Kept s l o x b' r') t
    (subst (λ (x : ℕ). Kept s l o f x r') u
    (subst (λ (x : ℕ). Kept s l o f b x) v k))))

-- a session whose line was run and whose answer was put
pub kept_put : (h : Held) (m : Machine) (s : Session) (line out frames files starts : ℕ) → h.len ≡ 0 → Lends m frames files → s.held ≡ h → s.machine ≡ m
    → s.output.at ≤ out → 4096 ≤ out → starts ≡ 64 → Kept s line out frames files starts
kept_put h m s line out frames files starts none lends p q at room listed =
    record {
      held = subst (λ (x : Held). x.len ≤ line) (sym p) (omega (arith, none));
      at = at;
      room = room;
      lends = subst (λ (x : Machine). Lends x frames files) (sym q) lends;
      listed = listed;
    }

-- the same machine is lent the same
pub lends_as : (m m' : Machine) (frames files : ℕ) → m' ≡ m → Lends m frames files → Lends m' frames files
lends_as m m' frames files e l = subst (λ (x : Machine). Lends x frames files) (sym e) l

-- what is read lies in a buffer of the same length
pub reads_in : (from to n n' : ℕ) → n ≡ n' → (from ≤ to) × (to ≤ n) → (from ≤ to) × (to ≤ n')
reads_in from to n n' e r = (r.0, subst (λ (x : ℕ). to ≤ x) e r.1)
