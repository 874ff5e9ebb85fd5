-- From the core of a call to one step of the model.
use Rattle.std.specs.Prelude.{◌≡◌, ℕ, Bool, true, false, not, List, [], ◌∷◌, Result, Ok, Err, ⊤}
use Rattle.std.proofs.Math.Path.{refl}
use Rattle.std.proofs.Common.{ap, sym, ◌∙◌, true≢false}
use Rattle.address.specs.declared.VirtAddr.{VirtAddr}
use Rattle.answers.specs.declared.Refusal.{Refusal}
use Rattle.answers.specs.declared.Refusal.TheVariants.{BadTable}
use Rattle.model.specs.declared.Answer.{Answer}
use Rattle.model.specs.declared.Answer.TheVariants as says
use Rattle.model.specs.declared.Call.{Call}
use Rattle.model.specs.declared.Counted.{Counted}
use Rattle.model.specs.declared.Listed.{Listed}
use Rattle.model.specs.Answers.{After, Reply, leaving, first_of, of_listed}
use Rattle.model.specs.Calls.{decided, guarded, sound, region, regions, covers, load}
use Rattle.model.specs.Machine.{State}
use Rattle.model.specs.Meant.{meant, reply, counts}
use Rattle.model.specs.Run.{call, replying}
use Rattle.model.specs.SoundTest.{soundb}
use Rattle.rows.specs.GuardedLaws.{granted}
use Rattle.rows.specs.LentMemory.{state_of, SoundWords, SoundFrames}
use Rattle.lookup.specs.FirstOfLaws.{first_none}
use Rattle.regions.specs.Starts.{with_starts}
use Rattle.step.specs.Kind.{kind_of, kind_for}

-- ---- what a core is called on

module _ (w f b : List ℕ) (e : soundb (state_of w f b) ≡ true) where
  pub lent_words : SoundWords w
  lent_words = record { frames = f; files = b; sound = e }

  pub lent_frames : SoundFrames w f
  lent_frames = record { files = b; sound = e }

-- ---- calls that only look

keeps_guarded : {A : Type 0} (s : State) (refusal : Refusal → A) (tests : List (Bool × Refusal)) (t : After A) → t.state ≡ s → (guarded s refusal tests t).state ≡ s
unfolding guarded
keeps_guarded s refusal tests t e = go (first_of ((not (soundb s), BadTable) ∷ tests))
  where
    go : (d : Result ⊤ Refusal) → (decided d refusal s t).state ≡ s
    go (Ok tt) = e
    go (Err r) = refl

looked : {A : Type 0} (t : After A) (s : State) (r : A) → t.state ≡ s → r ≡ t.answer → t ≡ leaving r s
looked t s r k e = λ i. record { answer = sym e i; state = k i }

module _ (s : State) where
  region_keeps : (p a : ℕ) → (region s p a).state ≡ s
  unfolding region
  region_keeps p a = keeps_guarded s _ _ _ refl

  regions_keeps : (p : ℕ) → (regions s p).state ≡ s
  unfolding regions
  regions_keeps p = keeps_guarded s _ _ _ refl

  covers_keeps : (p a e : ℕ) → (covers s p a e).state ≡ s
  unfolding covers
  covers_keeps p a e = keeps_guarded s _ _ _ refl

  load_keeps : (p a : ℕ) → (load s p a).state ≡ s
  unfolding load
  load_keeps p a = keeps_guarded s _ _ _ refl

  pub sound_looked : soundb s ≡ true → sound s ≡ leaving (Ok tt) s
  unfolding sound
  sound_looked e = granted s Err [] _ e first_none

  pub region_looked : (p a : ℕ) (r : Result VirtAddr Refusal) → r ≡ (region s p a).answer → region s p a ≡ leaving r s
  region_looked p a r e = looked (region s p a) s r (region_keeps p a) e

  pub regions_looked : (p : ℕ) (r : Listed) → r ≡ (regions s p).answer → regions s p ≡ leaving r s
  regions_looked p r e = looked (regions s p) s r (regions_keeps p) e

  pub covers_looked : (p a end : ℕ) (r : Result Bool Refusal) → r ≡ (covers s p a end).answer → covers s p a end ≡ leaving r s
  covers_looked p a end r e = looked (covers s p a end) s r (covers_keeps p a end) e

  pub load_looked : (p a : ℕ) (r : Result ℕ Refusal) → r ≡ (load s p a).answer → load s p a ≡ leaving r s
  load_looked p a r e = looked (load s p a) s r (load_keeps p a) e

-- ---- a step

-- k is the call that is asked, t what its definition answers and leaves, f how that answer is told
module _ {A : Type 0} (f : A → Reply) (asked k : Call) (told : asked ≡ k) (s s' : State) (t : After A) (r : A) (does : t ≡ leaving r s') (means : call (meant k) s ≡ replying f t) where
  goes : (x : Reply) → x ≡ f r → call (meant asked) s ≡ leaving x s'
  goes x e = ap (λ (c : Call). call (meant c) s) told ∙ means ∙ ap (replying f) does ∙ (λ i. leaving (sym e i) s')

  pub stepped :
      (x : Answer) (starts : List ℕ) → reply x starts ≡ f r → kind_of x ≡ kind_for k
      → (call (meant asked) s ≡ leaving (reply x starts) s') × ((counts x ≡ false → starts ≡ starts) × (kind_of x ≡ kind_for asked))
  stepped x starts e of = (goes (reply x starts) e, (λ _. refl, of ∙ ap kind_for (sym told)))

-- a call that lists starts
pub listed :
    (asked k : Call) → asked ≡ k → (s s' : State) (t : After Listed) (n : Counted) (starts starts₀ : List ℕ)
    → t ≡ leaving (with_starts n starts) s' → call (meant k) s ≡ replying of_listed t → kind_of (says.Counted n) ≡ kind_for k
    → (call (meant asked) s ≡ leaving (reply (says.Counted n) starts) s') × ((counts (says.Counted n) ≡ false → starts ≡ starts₀) × (kind_of (says.Counted n) ≡ kind_for asked))
unfolding reply counts
listed asked k told s s' t n starts starts₀ does means of =
    (goes of_listed asked k told s s' t (with_starts n starts) does means (reply (says.Counted n) starts) refl, (λ x. absurd (true≢false x), of ∙ ap kind_for (sym told)))
