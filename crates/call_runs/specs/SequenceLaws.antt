-- Laws of `RunAll`: its calls are a sequence of the model's calls, so that what holds after any sequence holds after them (RULES D3).
use Rattle.std.specs.Prelude.{◌≡◌, refl, Bool, true, false, cond, List, [], ◌∷◌, ◌++◌, ℕ, ◌%◌, eqb, length, drop, Option, Some, None}
use Rattle.std.proofs.Common.{ap, sym, subst, ◌∙◌, eq-eqb}
use Rattle.model.specs.declared.Call as code
use Rattle.model.specs.Answers.{leaving, of_done}
use Rattle.model.specs.Calls as calls
use Rattle.model.specs.Layout.{word_count}
use Rattle.model.specs.Machine.{State}
use Rattle.model.specs.Meant.{meant}
use Rattle.model.specs.Run.{Call, call, step, run, replying}
use Rattle.model.specs.Sound.{Sound}
use Rattle.keeping.specs.CallsKept.{run_kept}
use Rattle.rows.specs.LentMemory.{state_of}
use Rattle.process.specs.Start.{files_of}
use Rattle.call_rows.specs.Asked.{call_in, starts_with}
use Rattle.call_runs.specs.RunAll.{bad_table, named, started, one_call, run_all, running, RanAll}

-- the model's calls that the words of one are: it, or none
abbrev numbered : Option code.Call → List Call
numbered (Some c) = meant c ∷ []
numbered None = []

abbrev meant_by : List ℕ → List Call
meant_by l = cond (starts_with l) (cond (eqb (length (drop 1 l) % 3) 0) (Call.start (files_of (drop 1 l)) ∷ []) []) (numbered (call_in l))

unfoldable pub sequence : List (List ℕ) → List Call
sequence [] = []
sequence (l ∷ more) = meant_by l ++ sequence more

one_runs : (l : List ℕ) (s : State) → (one_call true l s).state ≡ run (meant_by l) s
unfolding one_call started run step call
one_runs l s = go (starts_with l) (eqb (length (drop 1 l) % 3) 0) (call_in l)
  where
    go : (x y : Bool) (n : Option code.Call)
        → (cond x (cond y (replying of_done (calls.start s (files_of (drop 1 l)))) (leaving bad_table s)) (named n s)).state
        ≡ run (cond x (cond y (Call.start (files_of (drop 1 l)) ∷ []) []) (numbered n)) s
    go true true n = refl
    go true false n = refl
    go false y (Some c) = refl
    go false y None = refl

run_both : (k l : List Call) (s : State) → run (k ++ l) s ≡ run l (run k s)
unfolding run
run_both [] l s = refl
run_both (c ∷ k) l s = run_both k l (step c s)

pub all_runs : (l : List (List ℕ)) (s : State) → (run_all true l s).state ≡ run (sequence l) s
unfolding run_all sequence run
all_runs [] s = refl
all_runs (l ∷ more) s = all_runs more (one_call true l s).state ∙ ap (λ (t : State). run (sequence more) t) (one_runs l s) ∙ sym (run_both (meant_by l) (sequence more) s)

-- many calls leave a sound machine sound
pub all_kept : (calls w f b answers w' f' answers' : List ℕ) (n : ℕ) → RanAll calls w f b answers w' f' answers' n → length w ≡ word_count → Sound (state_of w f b) → Sound (state_of w' f' b)
all_kept calls w f b answers w' f' answers' n ran h k =
    let left : state_of w' f' b ≡ run (sequence (running calls answers)) (state_of w f b) =
    ran.leaves ∙ ap (λ (x : Bool). (run_all x (running calls answers) (state_of w f b)).state) (eq-eqb (length w) word_count h) ∙ all_runs (running calls answers) (state_of w f b) in
    subst Sound (sym left) (run_kept (sequence (running calls answers)) (state_of w f b) k)
