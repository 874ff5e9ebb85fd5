-- Laws of `Opening`: opening a process, way by way.
use Rattle.std.specs.Prelude.{◌≡◌, refl, Bool, true, false, List, ℕ, ◌+◌, ◌-◌, ◌≤◌, ◌<◌, set, ltb, Option, Some, None, Ok, Err}
use Rattle.std.proofs.Math.Path.{ap}
use Rattle.std.proofs.Common.{sym, ◌∙◌, arith, ltb-true, ltb-false, lt-ltb, le-ltb}
use Rattle.std.proofs.Math.Bool.{not}
use Rattle.answers.specs.declared.Refusal.{Refusal}
use Rattle.answers.specs.declared.Refusal.TheVariants.{BadAddress, BadRange, TableFull}
use Rattle.address.specs.Canonical.{user}
use Rattle.address.specs.Pages.{aligned}
use Rattle.model.specs.Machine.{Machine, no_process, user_end, with_processes}
use Rattle.model.specs.Layout.{machine}
use Rattle.model.specs.Lookup.{is_found, row_found}
use Rattle.model.specs.Answers.{first_of, leaving}
use Rattle.model.specs.Refusals.{closed_row, open_refusals}
use Rattle.model.specs.Calls.{open_process, core_open, opened_row}
use Rattle.rows.specs.LentMemory.{state_of, words_alone, DoesWords}
use Rattle.lookup.specs.LookupsLaws.{processes_length, closed}
use Rattle.lookup.specs.FirstOfLaws.{first_here, first_later, first_none, not_no, not_yes}
use Rattle.rows.specs.GuardedLaws.{refused, granted}
use Rattle.model.specs.FoundRowLaws.{first_found}
use Rattle.process.specs.Opening.{bad_arena}

module _ (a size : ℕ) where
  pub arena_start : aligned a ≡ false → true ≡ bad_arena a size
  arena_start e = rw e refl

  pub arena_end : aligned a ≡ true → aligned size ≡ false → true ≡ bad_arena a size
  arena_end e f = rw (e, f) refl

  pub arena_last : (b : Bool) → aligned a ≡ true → aligned size ≡ true → b ≡ ltb user_end (a + size) → b ≡ bad_arena a size
  arena_last b e f g = rw (e, f) g

  -- with no sum that could be too large
  pub past_start : user_end < a → true ≡ ltb user_end (a + size)
  past_start h = sym (lt-ltb user_end (a + size) (omega arith))

  pub past_end : a ≤ user_end → ltb (user_end - a) size ≡ ltb user_end (a + size)
  past_end h = go (ltb (user_end - a) size) refl
    where
      go : (b : Bool) → ltb (user_end - a) size ≡ b → b ≡ ltb user_end (a + size)
      go true e = let over = ltb-true (user_end - a) size e in sym (lt-ltb user_end (a + size) (omega arith))
      go false e = let under = ltb-false (user_end - a) size e in sym (le-ltb user_end (a + size) (omega arith))

-- ---- the tests, one by one

pub closed_small : (w : List ℕ) (i : ℕ) → Some i ≡ closed_row (machine w) → i < 8
closed_small w i e = let found = (first_found closed (machine w).processes i no_process (sym e)).0 in let sized = processes_length w in omega arith

module _ (w : List ℕ) (a size : ℕ) where
  open_refused : (r : Refusal) → Err r ≡ first_of (open_refusals (words_alone w) a size) → DoesWords (λ s. open_process s a size) w w (Err r)
  unfolding open_process open_refusals
  open_refused r e f b s = refused (state_of w f b) Err _ _ s r e

  pub open_address : user a ≡ false → DoesWords (λ s. open_process s a size) w w (Err BadAddress)
  unfolding open_refusals
  open_address u = open_refused BadAddress (first_here _ BadAddress _ (not_no _ u))

  module _ (u : user a ≡ true) where
    pub open_arena : bad_arena a size ≡ true → DoesWords (λ s. open_process s a size) w w (Err BadRange)
    unfolding open_refusals
    open_arena g = open_refused BadRange (first_later _ BadAddress _ _ (not_yes _ u) (first_here _ BadRange _ g))

    module _ (g : bad_arena a size ≡ false) where
      pub open_full : None ≡ closed_row (machine w) → DoesWords (λ s. open_process s a size) w w (Err TableFull)
      unfolding open_refusals
      open_full n = open_refused TableFull (first_later _ BadAddress _ _ (not_yes _ u) (first_later _ BadRange _ _ g (first_here _ TableFull _ (ap (λ x. not (is_found x)) (sym n)))))

      pub open_done : (i : ℕ) → Some i ≡ closed_row (machine w) → (v : List ℕ) → machine v ≡ with_processes (machine w) (set (machine w).processes i (opened_row a size)) → DoesWords (λ s. open_process s a size) w v (Ok i)
      unfolding open_process open_refusals core_open
      open_done i n v put f b s =
          granted (state_of w f b) Err _ _ s (first_later _ BadAddress _ _ (not_yes _ u) (first_later _ BadRange _ _ g (first_later _ TableFull _ _ (ap (λ x. not (is_found x)) (sym n)) first_none)))
          ∙ ap (λ (j : ℕ). leaving (Ok j) (record { machine = with_processes (machine w) (set (machine w).processes j (opened_row a size)); frames = f; bytes = b })) (sym (ap (λ (x : Option ℕ). row_found x) n))
          ∙ ap (λ (m : Machine). leaving (Ok i) (record { machine = m; frames = f; bytes = b })) (sym put)
