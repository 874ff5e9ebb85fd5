-- From the soundness test and one step to any call on any lent memory.
use Rattle.std.specs.Prelude.{◌≡◌, ℕ, Bool, true, false, List, length, ◌≢◌}
use Rattle.std.proofs.Math.Path.{refl, ap, sym}
use Rattle.std.proofs.Common.{◌∙◌, true≢false}
use Rattle.answers.specs.declared.Refusal.TheVariants.{BadTable}
use Rattle.model.specs.declared.Answer.{Answer}
use Rattle.model.specs.declared.Answer.TheVariants as says
use Rattle.model.specs.declared.Call.{Call}
use Rattle.model.specs.declared.Call.TheVariants as asks
use Rattle.model.specs.declared.Counted.{Counted}
use Rattle.model.specs.declared.Listed.{Listed}
use Rattle.model.specs.Answers.{After, leaving, not_listed, of_done, of_opened, of_placed, of_covering, of_loaded, of_listed}
use Rattle.model.specs.Calls as calls
use Rattle.model.specs.Machine.{State}
use Rattle.model.specs.Meant.{meant, reply, refused, counts}
use Rattle.model.specs.Run.{call, replying}
use Rattle.model.specs.SoundTest.{soundb}
use Rattle.rows.specs.LentMemory.{state_of, OnSound, DoesWith, DoesWords}
use Rattle.regions.specs.Starts.{with_starts}
use Rattle.step.specs.Kind.{kind_of, kind_for}
use Rattle.step.specs.KindLaws.{one_answer}
use Rattle.step.specs.StepLaws.{regions_looked}
use Rattle.soundness.specs.SoundLent.{sound_lent}
use Rattle.calls.specs.AnsweredLaws.{sound_state, refused_whole, done_with}
use Rattle.calls.specs.UnsoundLaws as un
use Rattle.calls.specs.Ran.{Ran, reply_on, no_starts, none_for, starts_refused}

-- any call refuses an unsound machine, in the shape of its answer
pub any_unsound : (c : Call) (s : State) → soundb s ≡ false → call (meant c) s ≡ leaving (reply (refused c BadTable) no_starts) s
unfolding call meant reply refused not_listed
any_unsound asks.Sound s e = ap (replying of_done) (un.sound_unsound s e)
any_unsound (asks.Open a size) s e = ap (replying of_opened) (un.open_unsound s e a.0 size)
any_unsound (asks.Close p) s e = ap (replying of_done) (un.close_unsound s e p)
any_unsound (asks.CreatePrivate p place population size flags fork thread) s e = ap (replying of_placed) (un.private_unsound s e p place _ size flags _ thread)
any_unsound (asks.CreateFile p place size flags fork thread file offset len) s e = ap (replying of_placed) (un.file_unsound s e p place size flags _ thread file offset len)
any_unsound (asks.CreateShared p place size) s e = ap (replying of_placed) (un.shared_unsound s e p place size)
any_unsound (asks.Remove p a) s e = ap (replying of_done) (un.remove_unsound s e p a.0)
any_unsound (asks.Clear p) s e = ap (replying of_done) (un.clear_unsound s e p)
any_unsound (asks.Carve p a end) s e = ap (replying of_listed) (un.carve_unsound s e p a end)
any_unsound (asks.Covers p a end) s e = ap (replying of_covering) (un.covers_unsound s e p a end)
any_unsound (asks.Region p a) s e = ap (replying of_placed) (un.region_unsound s e p a.0)
any_unsound (asks.Regions p) s e = ap (replying of_listed) (un.regions_unsound s e p)
any_unsound (asks.Fault p a w) s e = ap (replying of_done) (un.fault_unsound s e p a.0 w)
any_unsound (asks.Populate p a len w) s e = ap (replying of_done) (un.populate_unsound s e p a.0 len w)
any_unsound (asks.Eager p) s e = ap (replying of_done) (un.eager_unsound s e p)
any_unsound (asks.CloneRegion p a q) s e = ap (replying of_done) (un.clone_region_unsound s e p a.0 q)
any_unsound (asks.Clone p q) s e = ap (replying of_done) (un.clone_unsound s e p q)
any_unsound (asks.Protect p a flags) s e = ap (replying of_done) (un.protect_unsound s e p a.0 flags)
any_unsound (asks.Pin p a) s e = ap (replying of_done) (un.pin_unsound s e p a.0)
any_unsound (asks.Unpin p a) s e = ap (replying of_done) (un.unpin_unsound s e p a.0)
any_unsound (asks.Load p a) s e = ap (replying of_loaded) (un.load_unsound s e p a.0)
any_unsound (asks.Store p a b) s e = ap (replying of_done) (un.store_unsound s e p a.0 b)

-- where no start is written, an answer is told the same whatever stands there
told_anyhow : (r : Answer) (l m : List ℕ) → counts r ≡ false → reply r l ≡ reply r m
unfolding reply counts
told_anyhow (says.Done r) l m e = refl
told_anyhow (says.Opened r) l m e = refl
told_anyhow (says.Placed r) l m e = refl
told_anyhow (says.Covering r) l m e = refl
told_anyhow (says.Loaded r) l m e = refl
told_anyhow (says.Counted r) l m e = absurd (true≢false e)

module _ (c : Call) (w f b starts : List ℕ) where
  pub ran_short : (length starts ≢ 64) → (r : Answer) → r ≡ refused c BadTable → Ran c w f b starts w f starts r
  unfolding kind_for
  ran_short k r e = record { answer = λ h. absurd (k h); leaves = λ h. absurd (k h); kind = ap kind_of e; others = λ _. refl; short = λ _. (e, (refl, (refl, refl))) }

  pub ran_unsound : length starts ≡ 64 → sound_lent w f b ≡ false → (r : Answer) → r ≡ refused c BadTable → (starts' : List ℕ) → starts' ≡ starts_refused (counts r) starts → Ran c w f b starts w f starts' r
  unfolding reply_on kind_for
  ran_unsound h e r is starts' put =
      let whole = refused_whole (λ why. reply (refused c why) no_starts) (λ s. call (meant c) s) (any_unsound c) w f b e in
      record {
        answer = λ _. same (counts r) refl ∙ ap (λ (x : Answer). reply x no_starts) is ∙ whole.0;
        leaves = λ _. whole.1;
        kind = ap kind_of is;
        others = λ q. put ∙ ap (λ (y : Bool). starts_refused y starts) q;
        short = λ k. absurd (k h);
      }
    where
      same : (x : Bool) → counts r ≡ x → reply r starts' ≡ reply r no_starts
      same true q = ap (reply r) (put ∙ ap (λ (y : Bool). starts_refused y starts) q)
      same false q = told_anyhow r starts' no_starts q

  pub ran_sound : length starts ≡ 64 → sound_lent w f b ≡ true → (r : Answer) (w' f' starts' : List ℕ)
      → DoesWith (λ s. call (meant c) s) w f b w' f' (reply r starts') → (counts r ≡ false → starts' ≡ starts) → kind_of r ≡ kind_for c → Ran c w f b starts w' f' starts' r
  unfolding reply_on
  ran_sound h e r w' f' starts' does other of =
      let whole = done_with w f b e (λ why. reply (refused c why) no_starts) (λ s. call (meant c) s) (reply r starts') w' f' does in
      record { answer = λ _. whole.0; leaves = λ _. whole.1; kind = of; others = other; short = λ k. absurd (k h) }

-- the contract leaves one answer
pub ran_once : (c : Call) (w f b starts w' f' starts' : List ℕ) (r q : Answer) → Ran c w f b starts w' f' starts' r → Ran c w f b starts w' f' starts' q → length starts ≡ 64 → r ≡ q
ran_once c w f b starts w' f' starts' r q x y h = one_answer r q starts' starts' (x.kind ∙ sym y.kind) (x.answer h ∙ sym (y.answer h))

-- ---- the two calls that list starts, by their own functions

module _ (c : Call) (lists : refused c BadTable ≡ says.Counted (none_for BadTable)) (w f b starts : List ℕ) where
  list_short : (length starts ≢ 64) → (r : Counted) → r ≡ none_for BadTable → Ran c w f b starts w f starts (says.Counted r)
  list_short k r e = ran_short c w f b starts k (says.Counted r) (ap says.Counted e ∙ sym lists)

  list_unsound : length starts ≡ 64 → sound_lent w f b ≡ false → (r : Counted) → r ≡ none_for BadTable → (starts' : List ℕ) → starts' ≡ no_starts → Ran c w f b starts w f starts' (says.Counted r)
  unfolding counts
  list_unsound h e r is starts' put = ran_unsound c w f b starts h e (says.Counted r) (ap says.Counted is ∙ sym lists) starts' put

module _ (t : State → After Listed) (c : Call) (lists : refused c BadTable ≡ says.Counted (none_for BadTable)) (means : (s : State) → call (meant c) s ≡ replying of_listed (t s)) (w f b starts : List ℕ) where
  list_sound : length starts ≡ 64 → sound_lent w f b ≡ true → (r : Counted) (w' starts' : List ℕ) → t (state_of w f b) ≡ leaving (with_starts r starts') (state_of w' f b) → Ran c w f b starts w' f starts' (says.Counted r)
  unfolding reply counts kind_of kind_for
  list_sound h e r w' starts' does = ran_sound c w f b starts h e (says.Counted r) w' f starts' (means (state_of w f b) ∙ ap (replying of_listed) does) (λ x. absurd (true≢false x)) (sym (ap kind_of lists))

module _ (w f b starts : List ℕ) where
  module _ (p : ℕ) where
    pub regions_short : (length starts ≢ 64) → (r : Counted) → r ≡ none_for BadTable → Ran (asks.Regions p) w f b starts w f starts (says.Counted r)
    unfolding refused
    regions_short k r e = list_short (asks.Regions p) refl w f b starts k r e

    pub regions_unsound : length starts ≡ 64 → sound_lent w f b ≡ false → (r : Counted) → r ≡ none_for BadTable → (starts' : List ℕ) → starts' ≡ no_starts → Ran (asks.Regions p) w f b starts w f starts' (says.Counted r)
    unfolding refused
    regions_unsound h e r is starts' put = list_unsound (asks.Regions p) refl w f b starts h e r is starts' put

    pub regions_sound : length starts ≡ 64 → sound_lent w f b ≡ true → (r : Counted) (starts' : List ℕ) → OnSound (λ s. calls.regions s p) w (with_starts r starts') → Ran (asks.Regions p) w f b starts w f starts' (says.Counted r)
    unfolding call meant refused
    regions_sound h e r starts' on = list_sound (λ s. calls.regions s p) (asks.Regions p) refl (λ s. refl) w f b starts h e r w starts' (regions_looked (state_of w f b) p (with_starts r starts') (on f b (sound_state w f b e)))

  module _ (p a end : ℕ) where
    pub carve_short : (length starts ≢ 64) → (r : Counted) → r ≡ none_for BadTable → Ran (asks.Carve p a end) w f b starts w f starts (says.Counted r)
    unfolding refused
    carve_short k r e = list_short (asks.Carve p a end) refl w f b starts k r e

    pub carve_unsound : length starts ≡ 64 → sound_lent w f b ≡ false → (r : Counted) → r ≡ none_for BadTable → (starts' : List ℕ) → starts' ≡ no_starts → Ran (asks.Carve p a end) w f b starts w f starts' (says.Counted r)
    unfolding refused
    carve_unsound h e r is starts' put = list_unsound (asks.Carve p a end) refl w f b starts h e r is starts' put

    pub carve_sound : length starts ≡ 64 → sound_lent w f b ≡ true → (r : Counted) (w' starts' : List ℕ) → DoesWords (λ s. calls.carve s p a end) w w' (with_starts r starts') → Ran (asks.Carve p a end) w f b starts w' f starts' (says.Counted r)
    unfolding call meant refused
    carve_sound h e r w' starts' does = list_sound (λ s. calls.carve s p a end) (asks.Carve p a end) refl (λ s. refl) w f b starts h e r w' starts' (does f b (sound_state w f b e))
