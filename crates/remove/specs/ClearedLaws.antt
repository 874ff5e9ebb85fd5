-- Laws of `Cleared`: a process's regions removed one after the other, the first of the list until none is left.
use Rattle.std.specs.Prelude.{◌≡◌, ◌≢◌, true, false, ℕ, zero, suc, ◌+◌, ◌-◌, ◌*◌, ◌≤◌, ◌<◌, get_or, set, eqb}
use Rattle.std.proofs.Math.Path.{refl, ap, sym, subst}
use Rattle.std.proofs.Common.{◌∙◌, zero-le, suc-le-suc, arith, length-take, eq-eqb, ne_eqb}
use mathlib.Core.List.{List, [], ◌∷◌}
use Rattle.std.proofs.Math.ListN.{length}
use Rattle.model.specs.declared.Process.{Process}
use Rattle.laws.specs.Lists.{keep, each}
use Rattle.model.specs.Machine.{Machine, State, order_of, with_processes, no_process}
use Rattle.model.specs.Layout.{machine}
use Rattle.model.specs.Sound.{Sound}
use Rattle.model.specs.Remove.{remove_region, clear_regions, close_process}
use Rattle.lookup.specs.LookupsLaws.{processes_length, order_length}
use Rattle.lookup.specs.AttachedLaws.{places_length, order_slot}
use Rattle.regions.specs.Detached.{other}
use Rattle.remove.specs.Removed.{Removable, Removed}
use Rattle.remove.specs.RemovedLaws.{sound_removable, removed_order}
use Rattle.remove.specs.Cleared.{Slots, Clearable, FirstRemoved, Cleared, Closed}

pub sound_clearable : (s : State) (p : ℕ) → Sound s → p < 8 → Clearable s.machine p
sound_clearable s p sound h =
    let there : p < length s.machine.processes = rw sound.r6.sized.processes h in
    let ordered = sound.r6.ordered p there in
    record { removable = sound_removable s p sound h; slots = record { small = λ i l. (ordered.listed i l).0; once = ordered.once } }

order_most : (w : List ℕ) (p : ℕ) → p < 8 → length (order_of (machine w) p) ≤ 64
unfolding order_of
order_most w p h = let size = places_length w p h in simp length-take (omega arith)

first_is : (w : List ℕ) (p : ℕ) → p < 8 → (x s : ℕ) (l : List ℕ) → x ≡ get_or (machine w).order (p * 64) 0 → order_of (machine w) p ≡ s ∷ l → x ≡ s
first_is w p h x s l e f =
    let at : p * 64 ≡ p * 64 + 0 = omega arith in
    let some : length (order_of (machine w) p) ≡ suc (length l) = ap (λ t. length t) f in
    order_slot w p (length (order_of (machine w) p)) refl (order_most w p h) 0 x (omega arith) (e ∙ ap (λ (i : ℕ). get_or (machine w).order i 0) at) ∙ ap (λ t. get_or t 0 0) f

module _ (w : List ℕ) (p : ℕ) (h : p < 8) (x : ℕ) (read : x ≡ get_or (machine w).order (p * 64) 0) where
  pub first_goes : (n : Machine) → Removed (machine w) p x n → FirstRemoved (machine w) p n
  first_goes n gone s l e small = subst (λ (y : ℕ). Removed (machine w) p y n) (first_is w p h x s l read e) gone

  pub first_missing : 64 ≤ x → FirstRemoved (machine w) p (machine w)
  first_missing high s l e small = let same = first_is w p h x s l read e in absurd (omega arith)

-- ---- one after the other

keep_all : (s : ℕ) (l : List ℕ) → ((i : ℕ) → i < length l → s ≢ get_or l i 0) → keep (other s) l ≡ l
unfolding keep
keep_all s [] n = refl
keep_all s (x ∷ l) n =
    let p : eqb x s ≡ false = ne_eqb x s (λ e. n zero (suc-le-suc zero-le) (sym e)) in
    rw p (ap (λ t. x ∷ t) (keep_all s l (λ i h. n (suc i) (suc-le-suc h))))

keep_rest : (s : ℕ) (l : List ℕ) → Slots (s ∷ l) → keep (other s) (s ∷ l) ≡ l
unfolding keep
keep_rest s l k = let p : eqb s s ≡ true = eq-eqb s s refl in rw p (keep_all s l (λ i h. k.once zero (suc i) (suc-le-suc zero-le) (suc-le-suc h) tt))

slots_rest : (s : ℕ) (l : List ℕ) → Slots (s ∷ l) → Slots l
slots_rest s l k = record { small = λ i h. k.small (suc i) (suc-le-suc h); once = λ i j h g u. k.once (suc i) (suc j) (suc-le-suc h) (suc-le-suc g) u }

-- what is left to remove comes to the same
pub record Clears (m n : Machine) (p left : ℕ) : Type 0 where
  pub clearable : Clearable n p
  pub rest : clear_regions n p ≡ clear_regions m p
  pub count : left ≡ length (order_of n p)

abbrev pub Clearing : List ℕ → ℕ → List ℕ → ℕ → Type 0
Clearing w p v left = (length v ≡ length w) × (Clearable (machine w) p → Clears (machine w) (machine v) p left)

pub clear_first : (w : List ℕ) (p left : ℕ) → left ≡ length (order_of (machine w) p) → Clearing w p w left
clear_first w p left e = (refl, λ k. record { clearable = k; rest = refl; count = e })

module _ (m n o : Machine) (p : ℕ) (there : p < length n.processes) (room : p * 64 ≤ length n.order) (few : length (order_of n p) ≤ 64) (first : FirstRemoved n p o) where
  clears_next : (left : ℕ) → 0 < left → Clears m n p left → Clears m o p (left - 1)
  unfolding clear_regions each
  clears_next left some c = go (order_of n p) refl
    where
      go : (l : List ℕ) → order_of n p ≡ l → Clears m o p (left - 1)
      go [] e = let size = c.count ∙ ap (λ t. length t) e in absurd (omega arith)
      go (s ∷ l) e = record { clearable = record { removable = r.0; slots = subst Slots (sym order) (slots_rest s l slots) }; rest = ap (λ t. each (λ x y. remove_region y p x) t o) order ∙ ap (λ (x : Machine). each (λ x y. remove_region y p x) l x) r.1 ∙ sym (ap (λ t. each (λ x y. remove_region y p x) t n) e) ∙ c.rest; count = size }
        where
          slots : Slots (s ∷ l)
          slots = subst Slots e c.clearable.slots

          r : Removable o p × (o ≡ remove_region n p s)
          r = first s l e (slots.small zero (suc-le-suc zero-le)) c.clearable.removable

          kept : keep (other s) (order_of n p) ≡ l
          kept = ap (λ t. keep (other s) t) e ∙ keep_rest s l slots

          fits : length (keep (other s) (order_of n p)) ≤ 64
          fits = let a = ap (λ t. length t) kept in let b = ap (λ t. length t) e in omega arith

          order : order_of o p ≡ l
          order = ap (λ (x : Machine). order_of x p) r.1 ∙ removed_order n p s there room fits ∙ kept

          size : left - 1 ≡ length (order_of o p)
          size = let a = c.count ∙ ap (λ t. length t) e in let b = ap (λ t. length t) order in omega arith

pub clear_more : (w : List ℕ) (p : ℕ) → p < 8 → (v : List ℕ) (left : ℕ) → Clearing w p v left → 0 < left → (u : List ℕ) → length u ≡ length v → FirstRemoved (machine v) p (machine u) → Clearing w p u (left - 1)
clear_more w p h v left s some u long first =
    (long ∙ s.0, λ k. clears_next (machine w) (machine v) (machine u) p (rw processes_length h) (rw order_length (omega arith)) (order_most v p h) first left some (s.1 k))

pub clear_all : (w : List ℕ) (p : ℕ) (v : List ℕ) (left : ℕ) → Clearing w p v left → left ≤ 0 → Cleared (machine w) p (machine v)
unfolding clear_regions each
clear_all w p v left s none k = go (order_of (machine v) p) refl ∙ c.rest
  where
    c : Clears (machine w) (machine v) p left
    c = s.1 k

    go : (l : List ℕ) → order_of (machine v) p ≡ l → machine v ≡ clear_regions (machine v) p
    go [] e = sym (ap (λ t. each (λ x y. remove_region y p x) t (machine v)) e)
    go (x ∷ l) e = let size = c.count ∙ ap (λ t. length t) e in absurd (omega arith)

pub process_closes : (m : Machine) (p : ℕ) (n : Machine) → Cleared m p n → (o : Machine) (q : Process) → q ≡ no_process → o ≡ with_processes n (set n.processes p q) → Closed m p o
unfolding close_process
process_closes m p n clears o q none put k = put ∙ ap (λ (x : Process). with_processes n (set n.processes p x)) none ∙ ap (λ (x : Machine). with_processes x (set x.processes p no_process)) (clears k)
