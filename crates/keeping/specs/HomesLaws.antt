-- The model's lists of homes and of holds by membership.
use Rattle.std.specs.Prelude.{◌≡◌, ◌⊎◌, ◌≢◌, Bool, false, cond, List, [], ◌∷◌, map, ℕ, ◌+◌, ◌≤◌, eqb, Some}
use Rattle.std.proofs.Math.Path.{refl, ap}
use Rattle.std.proofs.Common.{sym, subst, ◌∙◌, inl, inr, true≢false, arith}
use Rattle.std.proofs.Math.Bool.{true}
use Rattle.std.proofs.Math.ListN.{get_or}
use borrow.Author.Tests.{eqb-true, eqb-false, eq-eqb, ne_eqb, not-true}
use Rattle.laws.specs.ResultLaws.{none_not_some, some_same}
use Rattle.model.specs.declared.Entry.{Entry}
use Rattle.model.specs.declared.Region.{Region}
use Rattle.laws.specs.Lists.{keep, count}
use Rattle.model.specs.Machine.{Machine, region_at, order_of, no_entry, no_region}
use Rattle.model.specs.Lookup.{contains, is_used, is_ranged}
use Rattle.model.specs.Backing.{backing_at}
use Rattle.model.specs.Sound.{Hold, holds, entry_holds, range_holds, homes, only, holders_of, RegionFits, EntryFits}
use Rattle.laws.specs.BoolLaws.{both_true, not_of}
use Rattle.laws.specs.In.{In, Once}
use Rattle.laws.specs.InLaws.{in_at, in_row, in_left, in_right, in_either, in_map, map_in}
use Rattle.laws.specs.InListsLaws.{in_keep, keep_in, keep_none}
use Rattle.keeping.specs.Owing.{EntryHolds, RangeHolds, Holds, row_at, entry_at, Agree}
use Rattle.model.specs.Holders.{entry_hold, range_hold, entry_taken, range_taken}
use Rattle.keeping.specs.OwingLaws.{taken_there, used_there}

-- ---- the one of a list

only_is : (l : List ℕ) (s : ℕ) → only l ≡ Some s → In s l
only_is [] s e = absurd (none_not_some e)
only_is (x ∷ []) s e = inl (sym (some_same e))
only_is (x ∷ y ∷ l) s e = absurd (none_not_some e)

in_only : (f : ℕ → Bool) (s : ℕ) (l : List ℕ) → Once l → In s l → f s ≡ true → ((t : ℕ) → In t l → f t ≡ true → t ≡ s) → only (keep f l) ≡ Some s
unfolding keep
in_only f s [] o k e u = absurd k
in_only f s (x ∷ l) o k e u = go (f x) refl k (λ h. in_only f s l o.1 h e (λ t i. u t (inr i)))
  where
    go : (b : Bool) → f x ≡ b → In s (x ∷ l) → (In s l → only (keep f l) ≡ Some s) → only (cond b (x ∷ keep f l) (keep f l)) ≡ Some s
    go true p h more =
        let same = u x (inl refl) p in
        ap (λ t. only (x ∷ t)) (keep_none f l (λ t i q. o.0 (subst (λ (y : ℕ). In y l) (u t (inr i) q ∙ sym same) i))) ∙ ap (λ (y : ℕ). Some y) same
    go false p (inl q) more = absurd (true≢false (sym e ∙ ap f q ∙ p))
    go false p (inr h) more = more h

module _ (m : Machine) (p a s : ℕ) where
  -- the one home of an address is listed and has it
  pub home_listed : only (homes m p a) ≡ Some s → In s (order_of m p) × (contains (region_at m p s) a ≡ true)
  unfolding homes
  home_listed e = in_keep (λ t. contains (region_at m p t) a) s (order_of m p) (only_is (keep (λ t. contains (region_at m p t) a) (order_of m p)) s e)

  -- and one that is listed and alone has it is its home
  pub listed_home : Once (order_of m p) → In s (order_of m p) → contains (region_at m p s) a ≡ true
      → ((t : ℕ) → In t (order_of m p) → contains (region_at m p t) a ≡ true → t ≡ s) → only (homes m p a) ≡ Some s
  unfolding homes
  listed_home o k e u = in_only (λ t. contains (region_at m p t) a) s (order_of m p) o k e u

-- ---- holds

module _ (m : Machine) (h : Hold) where
  -- a hold of the list is one of the machine
  pub holds_in : In h (holds m) → Holds m h
  unfolding holds entry_holds range_holds
  holds_in k = go (in_either h (map entry_hold (keep entry_taken m.entries)) (map range_hold (keep range_taken m.regions)) k)
    where
      entry : (e : Entry) → In e (keep entry_taken m.entries) → h ≡ entry_hold e → EntryHolds m.entries h
      entry e i q =
          let t = in_keep entry_taken e m.entries i in
          let r = in_row no_entry e m.entries t.0 in
          record {
            row = r.row;
            taken = λ z. eqb-false e.owner 0 (not-true _ t.1) (ap (λ (x : Entry). x.owner) (sym r.is) ∙ z);
            is = q ∙ ap entry_hold (sym r.is);
          }

      range : (e : Region) → In e (keep range_taken m.regions) → h ≡ range_hold e → RangeHolds m.regions h
      range e i q =
          let t = in_keep range_taken e m.regions i in
          let b = both_true (is_used e) (is_ranged e) t.1 in
          let r = in_row no_region e m.regions t.0 in
          record {
            row = r.row;
            taken = λ z. eqb-false e.kind 0 (not-true _ b.0) (ap (λ (x : Region). x.kind) (sym r.is) ∙ z);
            ranged = ap (λ (x : Region). x.ranged) r.is ∙ eqb-true e.ranged 1 b.1;
            is = q ∙ ap range_hold (sym r.is);
          }

      go : In h (map entry_hold (keep entry_taken m.entries)) ⊎ In h (map range_hold (keep range_taken m.regions)) → Holds m h
      go (inl a) = let t = in_map entry_hold h (keep entry_taken m.entries) a in inl (entry t.0 t.1.0 t.1.1)
      go (inr a) = let t = in_map range_hold h (keep range_taken m.regions) a in inr (range t.0 t.1.0 t.1.1)

  -- and the other way
  pub in_holds : Holds m h → In h (holds m)
  unfolding holds entry_holds range_holds
  in_holds (inl k) =
      let e : Entry = get_or m.entries k.row no_entry in
      let there = in_at no_entry m.entries k.row (taken_there m k.row k.taken) in
      let counted = map_in entry_hold e (keep entry_taken m.entries) (keep_in entry_taken e m.entries there (not_of _ k.taken)) in
      in_left h (map entry_hold (keep entry_taken m.entries)) _
      (subst (λ (x : Hold). In x (map entry_hold (keep entry_taken m.entries))) (sym k.is) counted)
  in_holds (inr k) =
      let r : Region = get_or m.regions k.row no_region in
      let there = in_at no_region m.regions k.row (used_there m k.row k.taken) in
      let ranged : range_taken r ≡ true = rw (ne_eqb _ 0 k.taken, eq-eqb _ 1 k.ranged) refl in
      let counted = map_in range_hold r (keep range_taken m.regions) (keep_in range_taken r m.regions there ranged) in
      in_right h (map entry_hold (keep entry_taken m.entries)) _
      (subst (λ (x : Hold). In x (map range_hold (keep range_taken m.regions))) (sym k.is) counted)

-- one hold more: all agree where it agrees with those from before
pub agree_more : (m : Machine) (new : Hold) (X : Type 0) → ((h k : Hold) → Holds m h → Holds m k → Agree h k)
    → (X → (h : Hold) → Holds m h → h.frame ≡ new.frame → (h.page ≡ new.page) × (h.shared ≡ new.shared)) → (h k : Hold) → ((h ≡ new) × X) ⊎ Holds m h
    → ((k ≡ new) × X) ⊎ Holds m k → Agree h k
agree_more m new X before with_new h k (inl a) (inl b) e = (ap (λ (x : Hold). x.page) (a.0 ∙ sym b.0), ap (λ (x : Hold). x.shared) (a.0 ∙ sym b.0))
agree_more m new X before with_new h k (inl a) (inr b) e =
    let t = with_new a.1 k b (sym e ∙ ap (λ (x : Hold). x.frame) a.0) in
    (ap (λ (x : Hold). x.page) a.0 ∙ sym t.0, ap (λ (x : Hold). x.shared) a.0 ∙ sym t.1)
agree_more m new X before with_new h k (inr a) (inl b) e =
    let t = with_new b.1 h a (e ∙ ap (λ (x : Hold). x.frame) b.0) in
    (t.0 ∙ sym (ap (λ (x : Hold). x.page) b.0), t.1 ∙ sym (ap (λ (x : Hold). x.shared) b.0))
agree_more m new X before with_new h k (inr a) (inr b) e = before h k a b e

-- what is held is in use
pub hold_used : (m : Machine) → ((i : ℕ) → RegionFits m (row_at m i)) → ((i : ℕ) → EntryFits m (entry_at m i)) → (h : Hold) → Holds m h
    → (backing_at m h.frame).len ≢ 0
hold_used m regions entries h (inl k) z =
    let one = ((entries k.row).used k.taken).frame in
    let same = ap (λ (x : Hold). (backing_at m x.frame).len) k.is in
    omega arith
hold_used m regions entries h (inr k) z =
    let limits = (regions k.row).used k.taken in
    let some = limits.some in
    let long = limits.ranged k.ranged in
    let same = ap (λ (x : Hold). (backing_at m x.frame).len) k.is in
    omega arith

-- a frame that nothing holds has no holders
count_none : (f : ℕ) (l : List Hold) → ((h : Hold) → In h l → h.frame ≢ f) → count (λ h. eqb h.frame f) l ≡ 0
unfolding count
count_none f [] n = refl
count_none f (h ∷ l) n = rw (ne_eqb h.frame f (n h (inl refl))) (count_none f l (λ k i. n k (inr i)))

pub held_none : (m : Machine) (f : ℕ) → ((h : Hold) → Holds m h → h.frame ≢ f) → holders_of m f ≡ 0
unfolding holders_of
held_none m f n = count_none f (holds m) (λ h i. n h (holds_in m h i))

-- .. and one that something holds has some
count_some : (f : ℕ) (l : List Hold) (h : Hold) → In h l → h.frame ≡ f → 1 ≤ count (λ k. eqb k.frame f) l
unfolding count
count_some f [] h i e = absurd i
count_some f (k ∷ l) h i e = go (eqb k.frame f) refl i (λ j. count_some f l h j e)
  where
    go : (b : Bool) → eqb k.frame f ≡ b → In h (k ∷ l) → (In h l → 1 ≤ count (λ k. eqb k.frame f) l)
        → 1 ≤ cond b (count (λ k. eqb k.frame f) l + 1) (count (λ k. eqb k.frame f) l)
    go true p j more = omega arith
    go false p (inl q) more = absurd (eqb-false k.frame f p (ap (λ (x : Hold). x.frame) (sym q) ∙ e))
    go false p (inr j) more = more j

pub held_some : (m : Machine) (f : ℕ) (h : Hold) → Holds m h → h.frame ≡ f → 1 ≤ holders_of m f
unfolding holders_of
held_some m f h k e = count_some f (holds m) h (in_holds m h k) e
