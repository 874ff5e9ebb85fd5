-- From what crate `calls` ensures to what the script says of its machine.
use Rattle.std.specs.Prelude.{◌≡◌, Bool, true, false, cond, List, ◌++◌, ℕ, ◌-◌, ◌*◌, ◌/◌, ◌≤◌, ◌<◌, length, take, drop, ltb, leb, Result, Ok, Err, ⊤}
use Rattle.std.proofs.Math.Path.{refl}
use Rattle.std.proofs.Common.{ap, sym, subst, ◌∙◌, true≢false, arith, length-take-le, take_at, drop_at, leb-false, ltb-true, ltb-false}
use Rattle.answers.specs.declared.Refusal.{Refusal}
use Rattle.answers.specs.declared.Refusal.TheVariants.{BadTable}
use Rattle.model.specs.declared.Answer.{Answer}
use Rattle.model.specs.declared.Call.{Call}
use Rattle.process.specs.Start.{Starts}
use Rattle.calls.specs.Ran.{Ran}
use Rattle.call_text.specs.declared.asked.Asked.{Asked}
use Rattle.call_text.specs.declared.asked.Why.TheVariants as why
use Rattle.call_text.specs.Faults.{whole_fault}
use Rattle.answer_text.specs.Written.{written_as}
use Rattle.script_step.specs.declared.said.Said.{Said}
use Rattle.script_step.specs.declared.said.Said.TheVariants as said
use Rattle.script_step.specs.declared.machine.Machine.{Machine}
use Rattle.script_step.specs.declared.said.Stepped.{Stepped}
use Rattle.script_step.specs.FileStep.{says, filed}
use Rattle.script_step.specs.MachineStep.{Lends, started_as, Began, Answers, wanted_as, Stepping}

-- ---- the ways through a line of the machine

module _ (m : Machine) where
  pub wanted_none : (s r : Said) → m.started ≡ false → r ≡ said.Fault (whole_fault why.NoMachine) → r ≡ wanted_as m s
  unfolding wanted_as
  wanted_none s r e p = rw e p

  pub wanted_some : (s : Said) → m.started ≡ true → s ≡ wanted_as m s
  unfolding wanted_as
  wanted_some s e = rw e refl

  pub answers_none : (call : Call) (w f b k : List ℕ) (r : Said) → m.started ≡ false → r ≡ said.Fault (whole_fault why.NoMachine) → Answers m call w f b k w f k r
  answers_none call w f b k r e p = record { none = λ _. (p, (refl, refl, refl)); some = λ t. absurd (true≢false (sym t ∙ e)) }

  -- the frames that were lent come back before the others
  pub answers_some : (call : Call) (w f b k w' f' k' : List ℕ) (a : Answer) (r : Said) → m.started ≡ true → m.frames ≤ length f → length f' ≡ length (take m.frames f)
      → Ran call w (take m.frames f) (take m.bytes b) k w' f' k' a → r ≡ said.Answer (written_as a)
      → Answers m call w f b k w' (f' ++ drop m.frames f) k' r
  answers_some call w f b k w' f' k' a r e h same d p =
      let long : length f' ≡ m.frames = same ∙ length-take-le m.frames f h in
      record {
        none = λ t. absurd (true≢false (sym e ∙ t));
        some = λ _.
            record {
              answer = a;
              is = p;
              ran = subst (λ (x : List ℕ). Ran call w (take m.frames f) (take m.bytes b) k w' x k' a) (sym (take_at f' (drop m.frames f) m.frames long)) d;
              behind = drop_at f' (drop m.frames f) m.frames long;
            };
      }

  module _ (count : ℕ) (w f b : List ℕ) where
    pub began_not : (r : Stepped Machine) → length f / 4096 < count → r ≡ started_as m count (Err BadTable) → Began m count w f b w r
    began_not r h e = record { outcome = Err BadTable; is = e; large = λ _. (refl, refl); starts = λ k. absurd (omega arith) }

    pub began : (w' : List ℕ) (d : Result ⊤ Refusal) (r : Stepped Machine) → count ≤ length f / 4096
        → Starts w (take (count * 4096) f) (take m.bytes b) (take (m.files * 3) m.rows) w' d → r ≡ started_as m count d → Began m count w f b w' r
    began w' d r h s e = record { outcome = d; is = e; large = λ k. absurd (omega arith); starts = λ _. s }

-- ---- the memory stays lent

either : {A : Type 0} (frames files : ℕ) (t : Bool) (x y : Stepped Machine × A) → (t ≡ true → Lends x.0.after frames files) → (t ≡ false → Lends y.0.after frames files)
    → Lends (cond t x y).0.after frames files
either frames files true x y p q = p refl
either frames files false x y p q = q refl

pub file_lends : (m : Machine) (readable : Bool) (bytes files : List ℕ) (frames : ℕ) (r : Stepped Machine) (b : List ℕ) → (r, b) ≡ filed m readable bytes files
    → Lends m frames (length files) → Lends r.after frames (length files)
unfolding filed
file_lends m readable bytes files frames r b e l =
    subst (λ (x : Stepped Machine × List ℕ). Lends x.0.after frames (length files)) (sym e)
    (either frames (length files) m.started _ _ (λ _. l)
    (λ _. either frames (length files) (leb 8 m.files) _ _ (λ _. l)
    (λ p. either frames (length files) (ltb (length files - m.bytes) (length bytes)) _ _ (λ _. l)
    (λ q.
    let less = leb-false 8 m.files p in
    let fits = ltb-false (length files - m.bytes) (length bytes) q in
    let fit = l.in_files in
    record { in_frames = l.in_frames; few = omega arith; in_files = omega arith }))))

pub says_lends : (m : Machine) (s : Said) (r : Stepped Machine) (frames files : ℕ) → r ≡ says m s → Lends m frames files → Lends r.after frames files
says_lends m s r frames files e l = subst (λ (x : Stepped Machine). Lends x.after frames files) (sym e) l

pub began_lends : (m : Machine) (count : ℕ) (w f b w' : List ℕ) (s : Stepped Machine) → Began m count w f b w' s → Lends m (length f) (length b) → Lends s.after (length f) (length b)
began_lends m count w f b w' s g l = subst (λ (x : Stepped Machine). Lends x.after (length f) (length b)) (sym g.is) (go g.outcome refl)
  where
    small : (t : Bool) → ltb (length f / 4096) count ≡ t → g.outcome ≡ Ok tt → count ≤ length f / 4096
    small true p e =
        let q = (g.large (ltb-true (length f / 4096) count p)).0 in
        let z : ◌≡◌ {A = ℕ} 0 1 = cc in
        omega arith
    small false p e = ltb-false (length f / 4096) count p

    go : (d : Result ⊤ Refusal) → g.outcome ≡ d → Lends (started_as m count d).after (length f) (length b)
    go (Err why) e = l
    go (Ok tt) e =
        let fits : count ≤ length f / 4096 = small (ltb (length f / 4096) count) refl e in
        record { in_frames = omega arith; few = l.few; in_files = l.in_files }

-- ---- a line, by its arm

module _ (m : Machine) (a x : Asked) (l w f b k w' f' b' k' : List ℕ) (r : Stepped Machine) where
  pub stepping_as : a ≡ x → Stepping m x l w f b k w' f' b' k' r → Stepping m a l w f b k w' f' b' k' r
  stepping_as e d = subst (λ (y : Asked). Stepping m y l w f b k w' f' b' k' r) (sym e) d

-- what only a machine that is there has
pub says_wanted : (m : Machine) (s t : Said) (r : Stepped Machine) → t ≡ wanted_as m s → r ≡ says m t → r ≡ says m (wanted_as m s)
says_wanted m s t r e q = q ∙ ap (λ (y : Said). says m y) e
