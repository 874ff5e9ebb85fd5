-- Laws of `RunAll`: one call in words, each way through it; and whether the machine is sound afterwards.
use Rattle.std.specs.Prelude.{◌≡◌, Bool, ◌&&◌, ℕ, ◌%◌, length, drop, Some, None, Result, Ok, Err, ⊤}
use Rattle.std.proofs.Math.Path.{refl, ap, sym}
use Rattle.std.proofs.Common.{subst, ◌∙◌, true≢false}
use Rattle.std.proofs.Math.Bool.{true, false, cond}
use mathlib.Core.List.{List, [], ◌∷◌}
use Rattle.std.proofs.Math.Dec.{eqb}
use Rattle.std.proofs.Math.ListN.{replicate}
use borrow.Author.Tests.{eqb-true, eqb-false, eq-eqb}
use Rattle.answers.specs.declared.Refusal.{Refusal}
use Rattle.answers.specs.declared.Refusal.TheVariants.{BadTable}
use Rattle.laws.specs.Lists.{pad}
use Rattle.laws.specs.TellsLaws.{told}
use Rattle.model.specs.declared.Answer.{Answer}
use Rattle.model.specs.declared.Call.{Call}
use Rattle.model.specs.declared.Call.TheVariants as asks
use Rattle.model.specs.Answers.{After, Reply, Try, leaving, refuse, of_done}
use Rattle.model.specs.Calls as calls
use Rattle.model.specs.EmptyLaws.{start_sound}
use Rattle.model.specs.Layout.{word_count}
use Rattle.model.specs.Meant.{meant, reply, refused, counts}
use Rattle.model.specs.RecordLaws.{sound_tells}
use Rattle.model.specs.Run.{call, replying}
use Rattle.model.specs.Run as run
use Rattle.model.specs.Sound.{Sound}
use Rattle.model.specs.SoundTest.{soundb}
use Rattle.keeping.specs.CallsKept.{kept}
use Rattle.rows.specs.LentMemory.{state_of, DoesWith}
use Rattle.process.specs.Start.{Starts, start_call, files_of}
use Rattle.soundness.specs.SoundLent.{sound_lent}
use Rattle.call_rows.specs.Asked.{call_in, starts_with}
use Rattle.call_rows.specs.AskedLaws.{behind_started}
use Rattle.call_rows.specs.BehindLaws.{behind}
use Rattle.call_rows.specs.Told.{first_value}
use Rattle.call_rows.specs.ToldLaws.{told_list, number_alone}
use Rattle.calls.specs.Answered.{answer_on, Leaves}
use Rattle.calls.specs.AnsweredLaws.{sound_length, sound_state}
use Rattle.calls.specs.Ran.{no_starts, reply_on}
use Rattle.calls.specs.RanLaws.{any_unsound}
use Rattle.call_runs.specs.RunAll.{bad_table, started, fits, one_call, row_of, RanOne}

-- ---- whether the machine is sound

-- one step leaves a sound machine sound
pub sound_stays : (k : run.Call) (words frames files words' frames' : List ℕ) (r : Reply) → DoesWith (λ s. call k s) words frames files words' frames' r → soundb (state_of words frames files) ≡ true → soundb (state_of words' frames' files) ≡ true
unfolding run.step
sound_stays k words frames files words' frames' r does e = told (sound_tells (state_of words' frames' files)) left
  where
    left : Sound (state_of words' frames' files)
    left = subst Sound (ap (λ x. x.state) does) (kept k (state_of words frames files) ((sound_tells (state_of words frames files)).yes e))

sound_lent_is : (w f b : List ℕ) → length w ≡ word_count → soundb (state_of w f b) ≡ true → true ≡ sound_lent w f b
unfolding sound_lent
sound_lent_is w f b h e = rw (eq-eqb (length w) word_count h, e) refl

pub step_sound : (k : run.Call) (w f b w' f' : List ℕ) (r : Reply) → sound_lent w f b ≡ true → DoesWith (λ s. call k s) w f b w' f' r → length w' ≡ length w → true ≡ sound_lent w' f' b
step_sound k w f b w' f' r e does h = sound_lent_is w' f' b (h ∙ sound_length w f b e) (sound_stays k w f b w' f' r does (sound_state w f b e))

-- ---- start

abbrev is_refusal : Result ⊤ Refusal → Bool
is_refusal (Ok tt) = false
is_refusal (Err r) = true

module _ (w f b rows w' : List ℕ) where
  -- granted only with lengths that fit
  granted_fits : start_call w f b rows ≡ leaving (Ok tt) (state_of w' f b) → (length w ≡ word_count) × (calls.start (state_of w f b) (files_of rows) ≡ leaving (Ok tt) (state_of w' f b))
  unfolding start_call
  granted_fits e = go (eqb (length w) word_count) (eqb (length rows % 3) 0) refl e
    where
      go : (x y : Bool) → eqb (length w) word_count ≡ x
          → cond (x && y) (calls.start (state_of w f b) (files_of rows)) (refuse BadTable (state_of w f b)) ≡ leaving (Ok tt) (state_of w' f b)
          → (length w ≡ word_count) × (calls.start (state_of w f b) (files_of rows) ≡ leaving (Ok tt) (state_of w' f b))
      go true true p q = (eqb-true (length w) word_count p, q)
      go true false p q = absurd (true≢false (ap (λ (t : Try). is_refusal t.answer) q))
      go false true p q = absurd (true≢false (ap (λ (t : Try). is_refusal t.answer) q))
      go false false p q = absurd (true≢false (ap (λ (t : Try). is_refusal t.answer) q))

  pub started_sound : (r : Result ⊤ Refusal) → Ok tt ≡ r → Starts w f b rows w' r → length w' ≡ length w → true ≡ sound_lent w' f b
  started_sound r e s h =
      let is = granted_fits (s.0 ∙ ap (λ (d : Result ⊤ Refusal). leaving d (state_of w' f b)) (sym e)) in
      let left : Sound (state_of w' f b) = subst Sound (ap (λ (t : Try). t.state) is.1) (start_sound (state_of w f b) (files_of rows) (ap (λ (t : Try). t.answer) is.1)) in
      sound_lent_is w' f b (h ∙ is.0) (told (sound_tells (state_of w' f b)) left)

-- the rows that start is given, on any lent memory
as_start : (asked w f b : List ℕ) → starts_with asked ≡ true → one_call (fits w) asked (state_of w f b) ≡ replying of_done (start_call w f b (drop 1 asked))
unfolding one_call started start_call
as_start asked w f b e = rw e (go (fits w) (eqb (length (drop 1 asked) % 3) 0))
  where
    go : (x y : Bool)
        → cond x (cond y (replying of_done (calls.start (state_of w f b) (files_of (drop 1 asked)))) (leaving bad_table (state_of w f b))) (leaving bad_table (state_of w f b))
        ≡ replying of_done (cond (x && y) (calls.start (state_of w f b) (files_of (drop 1 asked))) (refuse BadTable (state_of w f b)))
    go true true = refl
    go true false = refl
    go false true = refl
    go false false = refl

-- ---- rows

-- an answer without values
done_row : (r : Result ⊤ Refusal) → (of_done r).number ∷ replicate 65 0 ≡ row_of (of_done r)
unfolding row_of pad
done_row (Ok tt) = refl
done_row (Err why) = refl

-- a refusal of any call, in its shape
refused_row : (c : Call) → 1 ∷ replicate 65 0 ≡ row_of (reply (refused c BadTable) no_starts)
unfolding row_of pad reply refused
refused_row asks.Sound = refl
refused_row (asks.Open a size) = refl
refused_row (asks.Close p) = refl
refused_row (asks.CreatePrivate p place population size flags fork thread) = refl
refused_row (asks.CreateFile p place size flags fork thread file offset len) = refl
refused_row (asks.CreateShared p place size) = refl
refused_row (asks.Remove p a) = refl
refused_row (asks.Clear p) = refl
refused_row (asks.Carve p a end) = refl
refused_row (asks.Covers p a end) = refl
refused_row (asks.Region p a) = refl
refused_row (asks.Regions p) = refl
refused_row (asks.Fault p a w) = refl
refused_row (asks.Populate p a len w) = refl
refused_row (asks.Eager p) = refl
refused_row (asks.CloneRegion p a q) = refl
refused_row (asks.Clone p q) = refl
refused_row (asks.Protect p a flags) = refl
refused_row (asks.Pin p a) = refl
refused_row (asks.Unpin p a) = refl
refused_row (asks.Load p a) = refl
refused_row (asks.Store p a b) = refl

-- ---- the ways through one call

module _ (asked w f b : List ℕ) where
  -- all as it was, and the row of BadTable
  stays : (y : Reply) → 1 ∷ replicate 65 0 ≡ row_of y → one_call (fits w) asked (state_of w f b) ≡ leaving y (state_of w f b) → (row : List ℕ) → row ≡ 1 ∷ replicate 65 0 → RanOne asked w f b w f row
  stays y e is row put = record { told = put ∙ e ∙ ap (λ (t : After Reply). row_of t.answer) (sym is); leaves = ap (λ (t : After Reply). t.state) (sym is); other = λ _. (refl, refl) }

  pub one_none : starts_with asked ≡ false → None ≡ call_in asked → (row : List ℕ) → row ≡ 1 ∷ replicate 65 0 → RanOne asked w f b w f row
  unfolding one_call
  one_none e i = stays bad_table (done_row (Err BadTable)) (rw (e, sym i) (go (fits w)))
    where
      go : (x : Bool) → cond x (leaving bad_table (state_of w f b)) (leaving bad_table (state_of w f b)) ≡ leaving bad_table (state_of w f b)
      go true = refl
      go false = refl

  module _ (c : Call) (e : starts_with asked ≡ false) (i : Some c ≡ call_in asked) where
    as_call : one_call (fits w) asked (state_of w f b) ≡ cond (fits w) (call (meant c) (state_of w f b)) (leaving bad_table (state_of w f b))
    unfolding one_call
    as_call = rw (e, sym i) refl

    pub one_unsound : sound_lent w f b ≡ false → (row : List ℕ) → row ≡ 1 ∷ replicate 65 0 → RanOne asked w f b w f row
    unfolding sound_lent
    one_unsound u = go (fits w) refl (soundb (state_of w f b)) refl u
      where
        go : (x : Bool) → fits w ≡ x → (y : Bool) → soundb (state_of w f b) ≡ y → (x && y) ≡ false → (row : List ℕ) → row ≡ 1 ∷ replicate 65 0 → RanOne asked w f b w f row
        go false p y q k = stays bad_table (done_row (Err BadTable)) (as_call ∙ ap (λ (x : Bool). cond x (call (meant c) (state_of w f b)) (leaving bad_table (state_of w f b))) p)
        go true p false q k =
            stays (reply (refused c BadTable) no_starts) (refused_row c) (as_call ∙ ap (λ (x : Bool). cond x (call (meant c) (state_of w f b)) (leaving bad_table (state_of w f b))) p ∙ any_unsound c (state_of w f b) q)
        go true p true q k = absurd (true≢false k)

    pub one_sound :
        sound_lent w f b ≡ true → (r : Answer) (w' f' starts row : List ℕ)
        → DoesWith (λ s. call (meant c) s) w f b w' f' (reply r starts) → (counts r ≡ false → starts ≡ replicate 64 0) → length starts ≡ 64
        → row ≡ (reply r []).number ∷ first_value r ∷ starts → RanOne asked w f b w' f' row
    unfolding row_of
    one_sound u r w' f' starts row does others long is =
        let fit : fits w ≡ true = eq-eqb (length w) word_count (sound_length w f b u) in
        let all : one_call (fits w) asked (state_of w f b) ≡ leaving (reply r starts) (state_of w' f' b) =
        as_call ∙ ap (λ (x : Bool). cond x (call (meant c) (state_of w f b)) (leaving bad_table (state_of w f b))) fit ∙ does in
        record {
          told = is ∙ ap (λ (n : ℕ). n ∷ first_value r ∷ starts) (number_alone r starts) ∙ ap (λ (l : List ℕ). (reply r starts).number ∷ l) (told_list r starts long others) ∙ ap (λ (t : After Reply). row_of t.answer) (sym all);
          leaves = ap (λ (t : After Reply). t.state) (sym all);
          other = λ k. absurd (true≢false (sym fit ∙ k));
        }

  pub start_told : starts_with asked ≡ true → (w' row : List ℕ) (r : Result ⊤ Refusal) → Starts w f b (drop 1 asked) w' r → row ≡ (of_done r).number ∷ replicate 65 0 → RanOne asked w f b w' f row
  unfolding start_call
  start_told e w' row r starts is =
      let all : one_call (fits w) asked (state_of w f b) ≡ leaving (of_done r) (state_of w' f b) = as_start asked w f b e ∙ ap (λ (t : Try). replying of_done t) starts.0 in
      record {
        told = is ∙ done_row r ∙ ap (λ (t : After Reply). row_of t.answer) (sym all);
        leaves = ap (λ (t : After Reply). t.state) (sym all);
        other = λ k. (starts.1 BadTable (refusal k starts.0), refl);
      }
    where
      refusal : fits w ≡ false → start_call w f b (drop 1 asked) ≡ leaving r (state_of w' f b) → r ≡ Err BadTable
      refusal k q = sym (ap (λ (t : Try). t.answer) q) ∙ ap (λ (x : Bool). (cond (x && eqb (length (drop 1 asked) % 3) 0) (calls.start (state_of w f b) (files_of (drop 1 asked))) (refuse BadTable (state_of w f b))).answer) k

  pub one_started : starts_with asked ≡ true → (w' row : List ℕ) (r : Result ⊤ Refusal) → Starts w f b (behind asked) w' r → row ≡ (of_done r).number ∷ replicate 65 0 → RanOne asked w f b w' f row
  one_started e w' row r s is = start_told e w' row r (subst (λ (rows : List ℕ). Starts w f b rows w' r) (behind_started asked e) s) is

  -- what any call's own function answers and leaves, of any lent memory
  pub one_ran : (c : Call) → starts_with asked ≡ false → Some c ≡ call_in asked → (w' f' row : List ℕ) → row ≡ row_of (reply_on c w f b) → Leaves (λ s. call (meant c) s) w f b w' f' → RanOne asked w f b w' f' row
  unfolding reply_on answer_on
  one_ran c e i w' f' row is left = go (fits w) refl
    where
      go : (x : Bool) → fits w ≡ x → RanOne asked w f b w' f' row
      go true p =
          let all : one_call (fits w) asked (state_of w f b) ≡ call (meant c) (state_of w f b) = as_call c e i ∙ ap (λ (x : Bool). cond x (call (meant c) (state_of w f b)) (leaving bad_table (state_of w f b))) p in
          record {
            told = is ∙ ap (λ (x : Bool). row_of (cond x (call (meant c) (state_of w f b)).answer (reply (refused c BadTable) no_starts))) p ∙ ap (λ (t : After Reply). row_of t.answer) (sym all);
            leaves = left.machine (eqb-true (length w) word_count p) ∙ ap (λ (t : After Reply). t.state) (sym all);
            other = λ k. absurd (true≢false (sym p ∙ k));
          }
      go false p =
          let all : one_call (fits w) asked (state_of w f b) ≡ leaving bad_table (state_of w f b) = as_call c e i ∙ ap (λ (x : Bool). cond x (call (meant c) (state_of w f b)) (leaving bad_table (state_of w f b))) p in
          let same = left.other (eqb-false (length w) word_count p) in
          record {
            told = is ∙ ap (λ (x : Bool). row_of (cond x (call (meant c) (state_of w f b)).answer (reply (refused c BadTable) no_starts))) p ∙ sym (refused_row c) ∙ done_row (Err BadTable) ∙ ap (λ (t : After Reply). row_of t.answer) (sym all);
            leaves = (λ k. state_of (same.0 k) (same.1 k) b) ∙ ap (λ (t : After Reply). t.state) (sym all);
            other = λ _. same;
          }
