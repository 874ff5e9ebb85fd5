-- What the rules say at once of an open process, a listed slot, an address, a row in use: the first steps of every proof about a call.
use Rattle.std.specs.Prelude.{◌≡◌, ◌⊎◌, ◌≢◌, true, ℕ, ◌+◌, ◌-◌, ◌/◌, ◌%◌, ◌≤◌, ◌<◌, length, take}
use Rattle.std.proofs.Common.{ap, subst, ◌∙◌, inl, inr, arith}
use Rattle.std.proofs.Math.Decide.{ℕ_discrete}
use Rattle.model.specs.declared.Process.{Process}
use Rattle.model.specs.declared.Region.{Region}
use Rattle.model.specs.declared.Entry.{Entry}
use Rattle.laws.specs.Lists.{part}
use Rattle.model.specs.Machine.{Machine, process_at, no_process, order_of, row_of, region_at, no_region, no_entry}
use Rattle.model.specs.Lookup.{contains}
use Rattle.model.specs.Sound.{Apart, Used}
use Rattle.laws.specs.SetLaws.{row_there}
use Rattle.laws.specs.In.{In}
use Rattle.keeping.specs.Owing.{Owing, row_at, entry_at}
use Rattle.model.specs.RuleUseLaws.{apart_alone}

-- an open process has a row
pub open_low : {d : ℕ → ℕ} (m : Machine) → Owing d m → (p : ℕ) → (process_at m p).opened ≡ 1 → p < 8
open_low m o p is_open =
    let h = row_there m.processes no_process p (λ e. let z = ap (λ (q : Process). q.opened) e in omega arith) in
    let k = o.sizes.processes in
    omega arith

-- a process with an attached region is open
pub listed_open : (d : ℕ → ℕ) (m : Machine) → Owing d m → (p t : ℕ) → In t (order_of m p) → (process_at m p).opened ≡ 1
unfolding order_of
listed_open d m o p t k = go (ℕ_discrete (process_at m p).opened 1)
  where
    go : Dec ((process_at m p).opened ≡ 1) → (process_at m p).opened ≡ 1
    go (yes z) = z
    go (no z) = absurd (subst (λ (q : Process). In t (take q.attached (part 64 p m.order))) (o.closed p z) k)

-- a listed slot, by its row
pub listed_row : (m : Machine) (p t : ℕ) → t < 64 → In t (order_of m p) → In (row_of p t % 64) (order_of m (row_of p t / 64))
listed_row m p t h k =
    let a : t ≡ row_of p t % 64 = omega arith in
    let b : p ≡ row_of p t / 64 = omega arith in
    subst (λ (i : ℕ). In i (order_of m (row_of p t / 64))) a (subst (λ (i : ℕ). In t (order_of m i)) b k)

pub apart_turn : (r x : Region) → Apart r x → Apart x r
apart_turn r x (inl h) = inr h
apart_turn r x (inr h) = inl h

-- an address lies in one attached region at most
pub home_one : {d : ℕ → ℕ} (m : Machine) → Owing d m → (p : ℕ) → p < 8 → (a s t : ℕ) → In s (order_of m p) → In t (order_of m p)
    → contains (region_at m p s) a ≡ true → contains (region_at m p t) a ≡ true → s ≡ t
home_one m o p h a s t i j e f = go (ℕ_discrete s t)
  where
    go : Dec (s ≡ t) → s ≡ t
    go (yes z) = z
    go (no z) =
        let u = o.listed p s h i in
        let v = o.listed p t h j in
        let u0 = u.0 in
        let v0 = v.0 in
        absurd (apart_alone (region_at m p s) (region_at m p t) a (o.apart (row_of p s) (row_of p t) (λ y. z (omega arith)) (omega arith) u.1 v.1) e f)

-- a slot in use is listed or pinned
pub slot_pinned : {d : ℕ → ℕ} (m : Machine) → Owing d m → (p t : ℕ) → t < 64 → Used (region_at m p t) → In t (order_of m p) ⊎ (1 ≤ (region_at m p t).pins)
slot_pinned m o p t h u = go (o.pinned (row_of p t) u)
  where
    process : row_of p t / 64 ≡ p
    process = omega arith

    slot : row_of p t % 64 ≡ t
    slot = omega arith

    go : In (row_of p t % 64) (order_of m (row_of p t / 64)) ⊎ (1 ≤ (region_at m p t).pins) → In t (order_of m p) ⊎ (1 ≤ (region_at m p t).pins)
    go (inl i) = inl (subst (λ (j : ℕ). In j (order_of m p)) slot (subst (λ (j : ℕ). In (row_of p t % 64) (order_of m j)) process i))
    go (inr i) = inr i

-- a row in use is one of the table's
pub used_there : (m : Machine) (row : ℕ) → Used (row_at m row) → row < length m.regions
used_there m row u = row_there m.regions no_region row (λ e. u (ap (λ (r : Region). r.kind) e))

pub taken_there : (m : Machine) (i : ℕ) → (entry_at m i).owner ≢ 0 → i < length m.entries
taken_there m i u = row_there m.entries no_entry i (λ e. u (ap (λ (x : Entry). x.owner) e))

-- no entry is of a free slot
pub unowned : {d : ℕ → ℕ} (m : Machine) → Owing d m → (row : ℕ) → (row_at m row).kind ≡ 0 → (i : ℕ) → (entry_at m i).owner ≢ row + 1
unowned m o row free i e =
    let back : (entry_at m i).owner - 1 ≡ row = omega arith in
    ((o.entries i).used (λ z. omega arith)).used (ap (λ (j : ℕ). (row_at m j).kind) back ∙ free)
