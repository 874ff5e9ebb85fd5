-- The core of carve: the bounds, the array, the range carved; and the call's refusals.
use Rattle.std.specs.Prelude.{◌≡◌, refl, true, false, ◌||◌, not, List, ◌++◌, ℕ, ◌+◌, ◌-◌, ◌%◌, ◌≤◌, ◌<◌, length, take, drop, replicate, ltb, Result, Err, ⊤}
use Rattle.std.proofs.Math.Path.{ap}
use Rattle.std.proofs.Common.{sym, subst, ◌∙◌, arith, take_all, eqb-true, eq-eqb, ne_eqb, lt-ltb, le-ltb}
use Rattle.std.proofs.lemmas.List.Edits.{sets, sets-eq}
use Rattle.std.proofs.lemmas.List.{take-append-le}
use Rattle.std.proofs.lemmas.Bool.{not-false}
use Rattle.address.specs.Pages.{aligned}
use Rattle.answers.specs.declared.Refusal.{Refusal}
use Rattle.answers.specs.declared.Refusal.TheVariants.{NoProcess, BadRange}
use Rattle.model.specs.declared.Listed.{Listed}
use Rattle.model.specs.Machine.{Machine, State, with_order, order_of, process_at, user_end}
use Rattle.model.specs.Layout.{machine}
use Rattle.laws.specs.Lists.{keep}
use Rattle.laws.specs.BoolLaws.{or_none}
use Rattle.model.specs.Lookup.{is_open}
use Rattle.model.specs.Answers.{leaving, first_of, not_listed}
use Rattle.model.specs.Carve.{bad_bounds, partial, carve_each, carve_splits, carve_answer, core_carve}
use Rattle.model.specs.Refusals.{carve_refusals}
use Rattle.model.specs.Calls as calls
use Rattle.model.specs.RecordLaws.{sound_tells}
use Rattle.rows.specs.LentMemory.{state_of, words_alone, SoundWords, DoesWords}
use Rattle.lookup.specs.FirstOfLaws.{first_here, first_later, first_none, not_no, not_yes, open_small}
use Rattle.rows.specs.GuardedLaws.{refused, granted}
use Rattle.keeping.specs.Owing.{Owing, nothing}
use Rattle.keeping.specs.OwingOfSound.{sound_owing}
use Rattle.keeping.specs.CarveKept.{Passes, begins}
use Rattle.regions.specs.Starts.{with_starts}
use Rattle.carve_taken.specs.TakenOut.{whole}
use Rattle.carve.specs.PutBack.{slice}
use Rattle.carve.specs.CarveWalk.{Anything, Ready}
use Rattle.carve.specs.CarveCore.{Carvable, Carved}

-- ---- the bounds

module _ (a e : ℕ) where
  pub bad_start : (a % 4096 ≡ 0 → ⊥) → true ≡ bad_bounds a e
  bad_start h = rw (ne_eqb (a % 4096) 0 h) refl

  module _ (k : a % 4096 ≡ 0) where
    pub bad_end : (e % 4096 ≡ 0 → ⊥) → true ≡ bad_bounds a e
    bad_end h = rw (eq-eqb (a % 4096) 0 k, ne_eqb (e % 4096) 0 h) refl

    module _ (h : e % 4096 ≡ 0) where
      pub bad_order : e < a → true ≡ bad_bounds a e
      bad_order g = rw (eq-eqb (a % 4096) 0 k, eq-eqb (e % 4096) 0 h, lt-ltb e a g) refl

      pub bad_past : a ≤ e → ltb user_end e ≡ bad_bounds a e
      bad_past g = rw (eq-eqb (a % 4096) 0 k, eq-eqb (e % 4096) 0 h, le-ltb e a g) refl

-- ---- the array

-- a list that stands in an array from the first place on
slots_are : (array new l : List ℕ) (n : ℕ) → length array ≡ 64 → n ≡ length l → n ≤ 64 → new ≡ sets array 0 l → slice new 0 n ≡ l
slots_are array new l n long count most stored =
    (λ i. take (count i - 0) (stored i))
    ∙ ap (λ t. take (length l - 0) t) (sets-eq l array 0 (omega arith))
    ∙ ap (λ (j : ℕ). take j (l ++ drop (0 + length l) array)) (let z : length l - 0 ≡ length l = omega arith in z)
    ∙ take-append-le (length l) l (drop (0 + length l) array) (omega arith)
    ∙ take_all (length l) l (omega arith)

-- ---- the range

module _ (w : List ℕ) (p a e : ℕ) (k : Carvable w p a e) where
  -- the slots that are taken out, and those that stay
  abbrev cut : List ℕ
  cut = keep (partial (machine w) p a e) (order_of (machine w) p)

  abbrev rest : List ℕ
  rest = keep (whole (machine w) p a e) (order_of (machine w) p)

  module _ (array new : List ℕ) (n : ℕ) (long : length array ≡ 64) (count : n ≡ length cut) (most : n ≤ 64) (stored : new ≡ sets array 0 cut) (v : List ℕ) (taken : machine v ≡ with_order (machine w) p rest) where
    pub taken_ready : Ready p a e (machine v) (slice new 0 n)
    taken_ready =
        let owing : Owing nothing (machine w) = sound_owing _ ((sound_tells _).yes k.sound.sound) in
        let passes : Passes nothing Anything p (machine v) cut = record { x = machine w; l = rest; machine = taken; carving = begins nothing (machine w) owing p k.opened (partial (machine w) p a e); so_far = tt } in
        subst (λ l. Ready p a e (machine v) l) (sym (slots_are array new cut n long count most stored)) (record { low = k.low; high = k.high; passes = passes })

    splits : carve_each (slice new 0 n) (machine v) p a e ≡ carve_splits (machine w) p a e
    unfolding carve_splits
    splits = λ i. carve_each (slots_are array new cut n long count most stored i) (taken i) p a e

    pub carved : (d : Result ⊤ Refusal) (u : List ℕ) → d ≡ (carve_each (slice new 0 n) (machine v) p a e).1 → machine u ≡ (carve_each (slice new 0 n) (machine v) p a e).0 → (r : Listed) → r ≡ carve_answer (machine u) p a e d → Carved (machine w) p a e (machine u) r
    carved d u done left r h = (left ∙ ap (λ (z : Machine × Result ⊤ Refusal). z.0) splits, h ∙ ap (λ (z : Result ⊤ Refusal). carve_answer (machine u) p a e z) (done ∙ ap (λ (z : Machine × Result ⊤ Refusal). z.1) splits))

-- ---- the call

module _ (w : List ℕ) (p a e : ℕ) where
  -- the head of a refusal, over an array of zeros
  carve_refused : (r : Refusal) → Err r ≡ first_of (carve_refusals (words_alone w) p a e) → (out : List ℕ) → out ≡ replicate 64 0 → DoesWords (λ s. calls.carve s p a e) w w (with_starts (record { done = Err r; count = 0 }) out)
  unfolding calls.carve carve_refusals not_listed
  carve_refused r h out zeros f b s = refused (state_of w f b) not_listed _ _ s r h ∙ ap (λ l. leaving (with_starts (record { done = Err r; count = 0 }) l) (state_of w f b)) (sym zeros)

  pub carve_closed : is_open (machine w) p ≡ false → (out : List ℕ) → out ≡ replicate 64 0 → DoesWords (λ s. calls.carve s p a e) w w (with_starts (record { done = Err NoProcess; count = 0 }) out)
  unfolding carve_refusals
  carve_closed o = carve_refused NoProcess (first_here _ NoProcess _ (not_no _ o))

  module _ (o : is_open (machine w) p ≡ true) where
    pub carve_bounds : bad_bounds a e ≡ true → (out : List ℕ) → out ≡ replicate 64 0 → DoesWords (λ s. calls.carve s p a e) w w (with_starts (record { done = Err BadRange; count = 0 }) out)
    unfolding carve_refusals
    carve_bounds g = carve_refused BadRange (first_later _ NoProcess _ _ (not_yes _ o) (first_here _ BadRange _ g))

    module _ (g : bad_bounds a e ≡ false) where
      pub can_carve : SoundWords w → Carvable w p a e
      can_carve s =
          let b1 = or_none (not (aligned a) || not (aligned e) || ltb e a) _ g in
          let b2 = or_none (not (aligned a) || not (aligned e)) (ltb e a) b1.0 in
          let b3 = or_none (not (aligned a)) (not (aligned e)) b2.0 in
          record { small = open_small w p o; low = eqb-true (a % 4096) 0 (not-false _ b3.0); high = eqb-true (e % 4096) 0 (not-false _ b3.1); sound = s; opened = eqb-true (process_at (machine w) p).opened 1 o }

      pub carve_done : (v : List ℕ) (r : Listed) → Carved (machine w) p a e (machine v) r → DoesWords (λ s. calls.carve s p a e) w v r
      unfolding calls.carve carve_refusals core_carve
      carve_done v r k f b s =
          granted (state_of w f b) not_listed _ _ s (first_later _ NoProcess _ _ (not_yes _ o) (first_later _ BadRange _ _ g first_none))
          ∙ ap (λ (n : Machine). leaving (carve_answer n p a e (carve_splits (machine w) p a e).1) (state_n n)) (sym k.0)
          ∙ ap (λ (l : Listed). leaving l (state_n (machine v))) (sym k.1)
        where
          state_n : Machine → State
          state_n n = record { machine = n; frames = f; bytes = b }
