-- Lists of attached regions stay, or grow at their end; regions in use and open processes stay.
use Rattle.std.specs.Prelude.{◌≡◌, refl, Bool, cond, List, [], ◌∷◌, ◌++◌, ℕ, get_or, take, eqb}
use Rattle.std.proofs.Common.{ap, sym, subst, ◌∙◌, append_assoc, append-nil, eq-eqb, ne_eqb}
use Rattle.std.proofs.Math.Decide.{ℕ_discrete}
use Rattle.model.specs.declared.Region.{Region}
use Rattle.laws.specs.Lists.{part, each}
use Rattle.model.specs.Machine.{Machine, State, process_at, region_at, row_of, order_of, no_process, no_region}
use Rattle.model.specs.Lookup.{free_slot, row_found}
use Rattle.model.specs.Backing.{hold, claim, add_entry, with_backings}
use Rattle.model.specs.Create.{add_region}
use Rattle.model.specs.Clone.{Held, share_entry, copy_entry}
use Rattle.model.specs.Sound.{Used}
use Rattle.laws.specs.In.{In}
use Rattle.laws.specs.InLaws.{in_left}
use Rattle.keeping.specs.Owing.{Owing}
use Rattle.keeping.specs.SlotsKept.{owes}
use Rattle.keeping.specs.CoreKept.{Lends}
use Rattle.keeping.specs.AddedKept.{Added, added_order, added_other, added_opened, added_row}

-- a process's list has more at its end, regions in use stay, and so do open processes
pub record Grows (m n : Machine) : Type 0 where
  pub more : ℕ → List ℕ
  pub order : (p : ℕ) → order_of n p ≡ order_of m p ++ more p
  pub rows : (p t : ℕ) → Used (region_at m p t) → region_at n p t ≡ region_at m p t
  pub opened : (p : ℕ) → (process_at m p).opened ≡ 1 → (process_at n p).opened ≡ 1

-- so what was listed is listed
pub grows_listed : {m n : Machine} → Grows m n → (p t : ℕ) → In t (order_of m p) → In t (order_of n p)
grows_listed {m} {n} g p t i = subst (λ l. In t l) (sym (g.order p)) (in_left t (order_of m p) (g.more p) i)

-- lists as they were
pub grows_lists : {m n : Machine} → ((p : ℕ) → order_of n p ≡ order_of m p) → n.regions ≡ m.regions
    → ((p : ℕ) → (process_at m p).opened ≡ 1 → (process_at n p).opened ≡ 1) → Grows m n
grows_lists {m} a b c = record {
  more = λ p. [];
  order = λ p. a p ∙ sym (append-nil (order_of m p));
  rows = λ p t u. ap (λ l. get_or l (row_of p t) no_region) b;
  opened = c;
}

-- lists and processes as they were
pub grows_same : {m n : Machine} → n.processes ≡ m.processes → n.order ≡ m.order → n.regions ≡ m.regions → Grows m n
unfolding order_of
grows_same a b c = grows_lists (λ p k. take (get_or (a k) p no_process).attached (part 64 p (b k))) c (λ p e. ap (λ l. (get_or l p no_process).opened) a ∙ e)

-- one after the other
pub grows_then : {a b c : Machine} → Grows a b → Grows b c → Grows a c
grows_then {a} x y = record {
  more = λ p. x.more p ++ y.more p;
  order = λ p. y.order p ∙ ap (λ l. l ++ y.more p) (x.order p) ∙ append_assoc (order_of a p) (x.more p) (y.more p);
  rows = λ p t u. y.rows p t (subst (λ (r : Region). Used r) (sym (x.rows p t u)) u) ∙ x.rows p t u;
  opened = λ p e. y.opened p (x.opened p e);
}

-- sharing and copying entries leave lists and processes alone
pub share_each : (row : ℕ) (l : List Held) (n : Machine) → Grows n (each (share_entry row) l n)
unfolding each share_entry add_entry hold with_backings
share_each row [] n = grows_same refl refl refl
share_each row (h ∷ l) n = grows_then (grows_same refl refl refl) (share_each row l (share_entry row h n))

pub share_lends : (row : ℕ) (l : List Held) (n : Machine) → Lends n (each (share_entry row) l n)
unfolding each share_entry add_entry hold with_backings
share_lends row [] n = record { files = refl; file_count = refl; frame_count = refl }
share_lends row (h ∷ l) n = let k = share_lends row l (share_entry row h n) in record { files = k.files; file_count = k.file_count; frame_count = k.frame_count }

pub copy_each : (row : ℕ) (l : List Held) (s : State) → Grows s.machine (each (copy_entry row) l s).machine
unfolding each copy_entry add_entry claim with_backings
copy_each row [] s = grows_same refl refl refl
copy_each row (h ∷ l) s = grows_then (grows_same refl refl refl) (copy_each row l (copy_entry row h s))

-- a region added lists one more
pub added_grows : (d : ℕ → ℕ) (m : Machine) (q : ℕ) (r : Region) → Owing (owes r d) m → Added m q r → Grows m (add_region m q r)
added_grows d m q r o new = record {
  more = more;
  order = λ p. go p (ℕ_discrete p q);
  rows = added_row d m q r o new;
  opened = λ p e. added_opened d m q r o new p ∙ e;
}
  where
    t : ℕ
    t = row_found (free_slot m q)

    more : ℕ → List ℕ
    more p = cond (eqb p q) (t ∷ []) []

    go : (p : ℕ) → Dec (p ≡ q) → order_of (add_region m q r) p ≡ order_of m p ++ more p
    go p (yes z) =
        ap (λ (j : ℕ). order_of (add_region m q r) j) z ∙ added_order d m q r o new ∙ ap (λ (j : ℕ). order_of m j ++ (t ∷ [])) (sym z)
        ∙ ap (λ (b : Bool). order_of m p ++ cond b (t ∷ []) []) (sym (eq-eqb p q z))
    go p (no z) = added_other d m q r o new p z ∙ sym (append-nil (order_of m p)) ∙ ap (λ (b : Bool). order_of m p ++ cond b (t ∷ []) []) (sym (ne_eqb p q z))
