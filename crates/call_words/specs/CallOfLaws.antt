-- The ways through the numbering.
use Rattle.std.specs.Prelude.{◌≡◌, refl, Bool, true, false, List, ℕ, zero, suc, ◌+◌, ◌≤◌, ◌<◌, Option, Some, None}
use Rattle.std.proofs.Common.{sym, ap, ◌∙◌, arith, lt-ltb, le-ltb}
use Rattle.std.proofs.Math.ListN.{get_or-eq_default}
use Rattle.model.specs.declared.Call.{Call}
use Rattle.model.specs.declared.Call.TheVariants as call
use Rattle.model.specs.declared.Place.{Place}
use Rattle.model.specs.declared.Population.{Population}
use Rattle.model.specs.declared.ForkPolicy.{ForkPolicy}
use Rattle.call_words.specs.CallOf.{flagb, only, calls, call_of, counts, count_of}

-- ---- a call that fits, and one that does not

pub only_not : (t : Bool) (c : Call) → t ≡ false → None ≡ only t c
only_not t c e = rw e

pub only_is : (t : Bool) (c d : Call) → t ≡ true → c ≡ d → Some c ≡ only t d
only_is t c d e p = rw (e, p)

pub private_as : {p size flags : ℕ} {thread : Bool} {x y : Place} {u v : Population} {f g : ForkPolicy} → x ≡ y → u ≡ v → f ≡ g
    → call.CreatePrivate p x u size flags f thread ≡ call.CreatePrivate p y v size flags g thread
private_as a b c = rw (a, b, c)

pub file_as : {p size flags file offset len : ℕ} {thread : Bool} {x y : Place} {f g : ForkPolicy} → x ≡ y → f ≡ g
    → call.CreateFile p x size flags f thread file offset len ≡ call.CreateFile p y size flags g thread file offset len
file_as a b = rw (a, b)

pub shared_as : {p size : ℕ} {x y : Place} → x ≡ y → call.CreateShared p x size ≡ call.CreateShared p y size
shared_as a = rw a

pub no_flag : (x : ℕ) → 2 ≤ x → flagb x ≡ false
no_flag x h = le-ltb x 2 h

pub is_flag : (x : ℕ) → x < 2 → flagb x ≡ true
is_flag x h = lt-ltb x 2 h

-- ---- a number

pub at_number : (a : List ℕ) (n k : ℕ) (r : Option Call) → n ≡ k → r ≡ call_of k a → r ≡ call_of n a
at_number a n k r e p = p ∙ ap (λ (x : ℕ). call_of x a) (sym e)

-- no arm of k from `first` on is n's
abbrev pub Missed : ℕ → ℕ → ℕ → Type 0
Missed first zero n = Unit {0}
Missed first (suc k) n = Missed first k n × (n ≡ first + k → ⊥)

past : (first k n : ℕ) → first ≤ n → Missed first k n → first + k ≤ n
past first zero n h m = omega arith
past first (suc k) n h m =
    let l : first + k ≤ n = past first k n h m.0 in
    let other : n ≡ first + k → ⊥ = m.1 in
    omega arith

pub only_start : (n : ℕ) → n < 13 → Missed 1 12 n → n ≡ 0
only_start zero h m = refl
only_start (suc n) h m = let l = past 1 12 (suc n) (omega arith) m in absurd (omega arith)

pub past_all : (a : List ℕ) (n : ℕ) → 13 ≤ n → Missed 13 10 n → None ≡ call_of n a
unfolding call_of
past_all a n h m = sym (get_or-eq_default (calls a) None {n = n} (past 13 10 n h m))

pub past_counts : (n : ℕ) → 23 ≤ n → 0 ≡ count_of n
unfolding count_of
past_counts n h = sym (get_or-eq_default counts 0 {n = n} h)
