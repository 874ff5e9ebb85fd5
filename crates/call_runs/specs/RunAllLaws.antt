-- Laws of `RunAll`: the calls that stand in words, their rows, and what the loop over them knows.
use Rattle.std.specs.Prelude.{◌≡◌, refl, Bool, true, false, cond, ℕ, zero, suc, ◌+◌, ◌*◌, ◌-◌, ◌/◌, ◌≤◌, ◌<◌, eqb, leb, get_or, drop}
use Rattle.std.proofs.Math.Path.{ap, sym}
use Rattle.std.proofs.Common.{◌∙◌, arith, length-append, length-drop, drop_of_length-le, drop_at, drop-drop, drop-cons, leb-true, le-leb}
use mathlib.Core.List.{List, [], ◌∷◌, ◌++◌, append-nil, append_assoc}
use Rattle.std.proofs.Math.ListN.{length, take}
use Rattle.std.proofs.Math.Seq.{take_all, take_at}
use Rattle.std.proofs.lemmas.Bool.{lt-leb}
use Rattle.laws.specs.ListsLaws.{pad_length}
use Rattle.model.specs.Answers.{After, Reply, leaving}
use Rattle.model.specs.Layout.{word_count}
use Rattle.model.specs.Machine.{State}
use Rattle.rows.specs.LentMemory.{state_of}
use Rattle.soundness.specs.SoundLent.{sound_lent}
use Rattle.call_runs.specs.RunAll.{calls_from, calls_in, end_from, end_of, fits, one_call, run_all, row_of, rows_of, running, RanOne, RanAll}

-- ---- the calls in words

-- more steps than words change nothing
enough : (k j : ℕ) (l : List ℕ) → length l ≤ k → length l ≤ j → calls_from k l ≡ calls_from j l
unfolding calls_from
enough zero zero l p q = refl
enough zero (suc j) [] p q = refl
enough zero (suc j) (n ∷ l) p q = absurd (omega arith)
enough (suc k) zero [] p q = refl
enough (suc k) zero (n ∷ l) p q = absurd (omega arith)
enough (suc k) (suc j) [] p q = refl
enough (suc k) (suc j) (n ∷ l) p q =
    let d : length (drop n l) ≡ length l - n = length-drop n l in
    ap (λ (rest : List (List ℕ)). cond (leb n (length l)) (take n l ∷ rest) []) (enough k j (drop n l) (omega arith) (omega arith))

calls_next : (n : ℕ) (l : List ℕ) → calls_in (n ∷ l) ≡ cond (leb n (length l)) (take n l ∷ calls_in (drop n l)) []
unfolding calls_in calls_from
calls_next n l =
    let d : length (drop n l) ≡ length l - n = length-drop n l in
    ap (λ (rest : List (List ℕ)). cond (leb n (length l)) (take n l ∷ rest) []) (enough (length l) (length (drop n l)) (drop n l) (omega arith) (omega arith))

none_in : (at : ℕ) (l : List ℕ) → end_from at l ≡ 0 → calls_in l ≡ []
unfolding calls_in calls_from
none_in at [] e = refl
none_in at (n ∷ l) e = calls_next n l ∙ pick (leb n (length l)) e
  where
    pick : (t : Bool) → cond t (at + 1 + n) 0 ≡ 0 → cond t (take n l ∷ calls_in (drop n l)) [] ≡ []
    pick true e = absurd (omega arith)
    pick false e = refl

-- no whole call at a place: none from there on
pub none_left : (calls : List ℕ) (at : ℕ) → end_of calls at ≡ 0 → calls_in (drop at calls) ≡ []
unfolding end_of
none_left calls at e = none_in at (drop at calls) e

-- one there: its words, and those behind
abbrev pub Left : List ℕ → ℕ → ℕ → Type 0
Left calls at end = (at + 1 ≤ end) × ((end ≤ length calls) × (calls_in (drop at calls) ≡ take (end - (at + 1)) (drop (at + 1) calls) ∷ calls_in (drop end calls)))

pub one_left : (calls : List ℕ) (at end : ℕ) → at ≤ length calls → end ≡ end_of calls at → (end ≡ 0 → ⊥) → Left calls at end
unfolding end_of
one_left calls at end h e k = go (drop at calls) refl e
  where
    found : (n : ℕ) (l : List ℕ) → drop at calls ≡ n ∷ l → (t : Bool) → leb n (length l) ≡ t → end ≡ cond t (at + 1 + n) 0 → Left calls at end
    found n l p false q i = absurd (k i)
    found n l p true q i =
        let few : n ≤ length l = leb-true n (length l) q in
        let rest : drop (at + 1) calls ≡ l = sym (drop-drop 1 at calls) ∙ ap (λ (x : List ℕ). drop 1 x) p in
        let long : length calls - at ≡ suc (length l) = sym (length-drop at calls) ∙ ap (λ (x : List ℕ). length x) p in
        let some : end - (at + 1) ≡ n = omega arith in
        let past : drop n l ≡ drop end calls = ap (λ (x : List ℕ). drop n x) (sym rest) ∙ drop-drop n (at + 1) calls ∙ ap (λ (x : ℕ). drop x calls) (sym i) in
        let next : calls_in (drop at calls) ≡ take n l ∷ calls_in (drop n l) = ap calls_in p ∙ calls_next n l ∙ ap (λ (t : Bool). cond t (take n l ∷ calls_in (drop n l)) []) q in
        let words : take n l ≡ take (end - (at + 1)) (drop (at + 1) calls) = ap (λ (x : ℕ). take x l) (sym some) ∙ ap (λ (x : List ℕ). take (end - (at + 1)) x) (sym rest) in
        (omega arith, (omega arith, next ∙ ap (λ (x : List ℕ). x ∷ calls_in (drop n l)) words ∙ ap (λ (x : List ℕ). take (end - (at + 1)) (drop (at + 1) calls) ∷ calls_in x) past))

    go : (m : List ℕ) → drop at calls ≡ m → end ≡ end_from at m → Left calls at end
    go [] p i = absurd (k i)
    go (n ∷ l) p i = found n l p (leb n (length l)) refl i

-- what the search for an end finds
module _ (calls : List ℕ) (at : ℕ) where
  pub end_none : length calls ≤ at → 0 ≡ end_of calls at
  unfolding end_of
  end_none h = ap (λ (l : List ℕ). end_from at l) (sym (drop_of_length-le calls {i = at} h))

  module _ (h : at < length calls) where
    end_is : end_of calls at ≡ cond (leb (get_or calls at 0) (length (drop (suc at) calls))) (at + 1 + get_or calls at 0) 0
    unfolding end_of
    end_is = ap (λ (l : List ℕ). end_from at l) (drop-cons calls at 0 h)

    pub end_cut : length calls - at - 1 < get_or calls at 0 → 0 ≡ end_of calls at
    end_cut k =
        let d : length (drop (suc at) calls) ≡ length calls - suc at = length-drop (suc at) calls in
        sym (end_is ∙ ap (λ (t : Bool). cond t (at + 1 + get_or calls at 0) 0) (lt-leb (get_or calls at 0) (length (drop (suc at) calls)) (omega arith)))

    pub end_whole : get_or calls at 0 ≤ length calls - at - 1 → at + 1 + get_or calls at 0 ≡ end_of calls at
    end_whole k =
        let d : length (drop (suc at) calls) ≡ length calls - suc at = length-drop (suc at) calls in
        sym (end_is ∙ ap (λ (t : Bool). cond t (at + 1 + get_or calls at 0) 0) (le-leb (get_or calls at 0) (length (drop (suc at) calls)) (omega arith)))

-- ---- rows, and one call more

row_length : (y : Reply) → length (row_of y) ≡ 66
unfolding row_of
row_length y = ap suc (pad_length 65 0 y.values)

rows_length : (l : List Reply) → length (rows_of l) ≡ length l * 66
unfolding rows_of
rows_length [] = refl
rows_length (y ∷ l) =
    let one : length (row_of y) ≡ 66 = row_length y in
    let rest : length (rows_of l) ≡ length l * 66 = rows_length l in
    length-append (row_of y) (rows_of l) ∙ (let z : length (row_of y) + length (rows_of l) ≡ suc (length l) * 66 = omega arith in z)

rows_more : (l : List Reply) (y : Reply) → rows_of (l ++ (y ∷ [])) ≡ rows_of l ++ row_of y
unfolding rows_of
rows_more [] y = append-nil (row_of y)
rows_more (x ∷ l) y = ap (λ (t : List ℕ). row_of x ++ t) (rows_more l y) ∙ sym (append_assoc (row_of x) (rows_of l) (row_of y))

abbrev one_more : Bool → List ℕ → After (List Reply) → After (List Reply)
one_more fit l t = leaving (t.answer ++ ((one_call fit l t.state).answer ∷ [])) (one_call fit l t.state).state

run_more : (fit : Bool) (done : List (List ℕ)) (l : List ℕ) (s : State) → run_all fit (done ++ (l ∷ [])) s ≡ one_more fit l (run_all fit done s)
unfolding run_all
run_more fit [] l s = refl
run_more fit (x ∷ done) l s = ap (λ (t : After (List Reply)). leaving ((one_call fit x s).answer ∷ t.answer) t.state) (run_more fit done l (one_call fit x s).state)

run_length : (fit : Bool) (done : List (List ℕ)) (s : State) → length (run_all fit done s).answer ≡ length done
unfolding run_all
run_length fit [] s = refl
run_length fit (x ∷ done) s = ap suc (run_length fit done (one_call fit x s).state)

-- a row put behind others
put_row : (rows answers answers' row : List ℕ) (n from to : ℕ) → from ≡ n * 66 → to ≡ from + 66 → length rows ≡ n * 66 → answers' ≡ rows ++ drop (n * 66) answers
    → take from answers' ++ (row ++ drop (to - from) (drop from answers')) ≡ (rows ++ row) ++ drop ((n + 1) * 66) answers
put_row rows answers answers' row n from to e g h is =
    let long : length rows ≡ from = h ∙ sym e in
    let before : take from answers' ≡ rows = ap (λ (l : List ℕ). take from l) is ∙ take_at rows (drop (n * 66) answers) from long in
    let behind : drop from answers' ≡ drop (n * 66) answers = ap (λ (l : List ℕ). drop from l) is ∙ drop_at rows (drop (n * 66) answers) from long in
    let past : n * 66 + (to - from) ≡ (n + 1) * 66 = omega arith in
    let rest : drop (to - from) (drop from answers') ≡ drop ((n + 1) * 66) answers = ap (λ (l : List ℕ). drop (to - from) l) behind ∙ drop-drop (to - from) (n * 66) answers ∙ ap (λ (k : ℕ). drop k answers) past in
    ap (λ (l : List ℕ). l ++ (row ++ drop (to - from) (drop from answers'))) before ∙ ap (λ (l : List ℕ). rows ++ (row ++ l)) rest ∙ sym (append_assoc rows row (drop ((n + 1) * 66) answers))

-- ---- the loop

-- what has been done where the loop stands: so many calls ran, and the rest stands from a place on
pub record Sofar (calls w f b answers : List ℕ) (sound : Bool) (at ran : ℕ) (w' f' answers' : List ℕ) : Type 0 where
  pub done : List (List ℕ)
  pub split : calls_in calls ≡ done ++ calls_in (drop at calls)
  pub count : length done ≡ ran
  pub told : answers' ≡ rows_of (run_all (fits w) done (state_of w f b)).answer ++ drop (ran * 66) answers
  pub leaves : state_of w' f' b ≡ (run_all (fits w) done (state_of w f b)).state
  pub other : fits w ≡ false → (w' ≡ w) × (f' ≡ f)
  pub verdict : sound ≡ sound_lent w' f' b
  pub words : length w' ≡ length w
  pub frames : length f' ≡ length f
  pub rows : length answers' ≡ length answers
  pub within : at ≤ length calls
  pub room : ran ≤ length answers / 66

module _ (calls w f b answers : List ℕ) where
  pub sofar_none : (sound : Bool) → sound ≡ sound_lent w f b → Sofar calls w f b answers sound 0 0 w f answers
  unfolding rows_of run_all
  sofar_none sound e =
      record {
        done = [];
        split = refl;
        count = refl;
        told = refl;
        leaves = refl;
        other = λ _. (refl, refl);
        verdict = e;
        words = refl;
        frames = refl;
        rows = refl;
        within = omega arith;
        room = omega arith;
      }

  module _ (sound : Bool) (at ran : ℕ) (w' f' answers' : List ℕ) (s : Sofar calls w f b answers sound at ran w' f' answers') where
    -- all that have room ran
    sofar_all : s.done ≡ running calls answers → RanAll calls w f b answers w' f' answers' ran
    sofar_all e =
        record {
          count = sym s.count ∙ ap (λ (l : List (List ℕ)). length l) e;
          told = s.told ∙ ap (λ (l : List (List ℕ)). rows_of (run_all (fits w) l (state_of w f b)).answer ++ drop (ran * 66) answers) e;
          leaves = s.leaves ∙ ap (λ (l : List (List ℕ)). (run_all (fits w) l (state_of w f b)).state) e;
          other = s.other;
        }

    -- no room is left
    pub sofar_full : length answers / 66 ≤ ran → RanAll calls w f b answers w' f' answers' ran
    unfolding running
    sofar_full h =
        let n : length answers / 66 ≡ ran = (let r : ran ≤ length answers / 66 = s.room in omega arith) in
        sofar_all (sym (ap (λ (l : List (List ℕ)). take (length answers / 66) l) s.split ∙ take_at s.done (calls_in (drop at calls)) (length answers / 66) (s.count ∙ sym n)))

    -- no call is left
    pub sofar_ended : end_of calls at ≡ 0 → RanAll calls w f b answers w' f' answers' ran
    unfolding running
    sofar_ended e =
        let r : ran ≤ length answers / 66 = s.room in
        let c : length s.done ≡ ran = s.count in
        let all : calls_in calls ≡ s.done = s.split ∙ ap (λ (l : List (List ℕ)). s.done ++ l) (none_left calls at e) ∙ append-nil s.done in
        sofar_all (sym (ap (λ (l : List (List ℕ)). take (length answers / 66) l) all ∙ take_all (length answers / 66) s.done (omega arith)))

    -- one call more
    pub sofar_more :
        (end from to : ℕ) → end ≡ end_of calls at → (end ≡ 0 → ⊥) → ran < length answers / 66 → from ≡ ran * 66 → to ≡ from + 66
        → (sound' : Bool) (w'' f'' row : List ℕ) → RanOne (take (end - (at + 1)) (drop (at + 1) calls)) w' f' b w'' f'' row → sound' ≡ sound_lent w'' f'' b
        → length w'' ≡ length w' → length f'' ≡ length f' → (answers'' : List ℕ) → answers'' ≡ take from answers' ++ (row ++ drop (to - from) (drop from answers')) → length answers'' ≡ length answers'
        → Sofar calls w f b answers sound' end (ran + 1) w'' f'' answers''
    sofar_more end from to is some left e g sound' w'' f'' row one v kw kf answers'' put ka =
        let found : Left calls at end = one_left calls at end s.within is some in
        let word : List ℕ = take (end - (at + 1)) (drop (at + 1) calls) in
        let fit : fits w' ≡ fits w = ap (λ (n : ℕ). eqb n word_count) s.words in
        let step : run_all (fits w) (s.done ++ (word ∷ [])) (state_of w f b) ≡ one_more (fits w) word (run_all (fits w) s.done (state_of w f b)) = run_more (fits w) s.done word (state_of w f b) in
        let here : one_call (fits w') word (state_of w' f' b) ≡ one_call (fits w) word (run_all (fits w) s.done (state_of w f b)).state = λ i. one_call (fit i) word (s.leaves i) in
        record {
          done = s.done ++ (word ∷ []);
          split = s.split ∙ ap (λ (l : List (List ℕ)). s.done ++ l) found.1.1 ∙ sym (append_assoc s.done (word ∷ []) (calls_in (drop end calls)));
          count = length-append s.done (word ∷ []) ∙ ap (λ (n : ℕ). n + 1) s.count;
          told =
              put
              ∙ put_row (rows_of (run_all (fits w) s.done (state_of w f b)).answer) answers answers' row ran from to e g (rows_length (run_all (fits w) s.done (state_of w f b)).answer ∙ ap (λ (n : ℕ). n * 66) (run_length (fits w) s.done (state_of w f b) ∙ s.count)) s.told
              ∙ ap (λ (l : List ℕ). (rows_of (run_all (fits w) s.done (state_of w f b)).answer ++ l) ++ drop ((ran + 1) * 66) answers) (one.told ∙ ap (λ (t : After Reply). row_of t.answer) here)
              ∙ ap (λ (l : List ℕ). l ++ drop ((ran + 1) * 66) answers) (sym (rows_more (run_all (fits w) s.done (state_of w f b)).answer (one_call (fits w) word (run_all (fits w) s.done (state_of w f b)).state).answer) ∙ ap (λ (t : After (List Reply)). rows_of t.answer) (sym step));
          leaves = one.leaves ∙ ap (λ (t : After Reply). t.state) here ∙ ap (λ (t : After (List Reply)). t.state) (sym step);
          other = λ k. let a = s.other k in let c = one.other (fit ∙ k) in (c.0 ∙ a.0, c.1 ∙ a.1);
          verdict = v;
          words = kw ∙ s.words;
          frames = kf ∙ s.frames;
          rows = ka ∙ s.rows;
          within = found.1.0;
          room = omega arith;
        }
