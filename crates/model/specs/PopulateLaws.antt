-- Populate's walk from page to page and from gap to region is every page of the range in turn.
use Rattle.std.specs.Prelude.{◌≡◌, Bool, ◌&&◌, ◌||◌, cond, List, [], ◌∷◌, map, get_or, eqb, Option, Some, None, Result, Ok, Err, ⊤}
use Rattle.std.proofs.Math.Path.{refl, ap, sym}
use Rattle.std.proofs.Common.{subst, ◌∙◌, add-one}
use Rattle.std.proofs.Math.Bool.{true, false}
use Rattle.std.proofs.lemmas.Bool.{false≢true}
use Prim.Native.Nat.{ℕ, zero, suc, ◌+◌, ◌-◌, ◌/◌, ◌%◌, ◌≤◌, ◌<◌}
use native.Mathlib.Omega.{arith}
use Rattle.std.proofs.Math.Dec.{ltb}
use borrow.Author.Tests.{ltb-true, ltb-false, leb-true, eqb-true, lt-ltb, le-ltb, le-leb, eq-eqb}
use Rattle.answers.specs.declared.Refusal.{Refusal}
use Rattle.laws.specs.Lists.{any, among, count}
use Rattle.model.specs.Machine.{Machine, State, region_at, row_of, order_of, mapped_of, no_region}
use Rattle.model.specs.Answers.{Try, fine, and_then}
use Rattle.model.specs.Lookup.{span_end, region_for}
use Rattle.model.specs.Paging.{page_start}
use Rattle.model.specs.Populate.{lower, lowest_above, next_start, populate_page, page_in, every_page, visit}
use Rattle.model.specs.LookupLaws.{first_found, first_none}
use Rattle.laws.specs.CountLaws.{count_fewer, count_more}
use Rattle.laws.specs.BoolLaws.{clash, both_true, or_right}
use Rattle.model.specs.MappedBelowLaws.{below, below_most, below_next}
use Rattle.model.specs.VisitLaws.{Fits, went_page}

-- ---- the lowest number above another

pub record Lowest (g : ℕ → ℕ) (l : List ℕ) (n y : ℕ) : Type 0 where
  pub above : n < y
  pub least : (s : ℕ) → among s l ≡ true → n < g s → y ≤ g s
  pub slot : ℕ
  pub listed : among slot l ≡ true
  pub is : g slot ≡ y

abbrev Spec : (ℕ → ℕ) → List ℕ → ℕ → Option ℕ → Type 0
Spec g l n None = (s : ℕ) → among s l ≡ true → g s ≤ n
Spec g l n (Some y) = Lowest g l n y

-- a listed slot is the first or one of the rest
either_slot : (Q : ℕ → Type 0) (t : ℕ) (l : List ℕ) (s : ℕ) → among s (t ∷ l) ≡ true → Q t → (among s l ≡ true → Q s) → Q s
unfolding any
either_slot Q t l s h q f = go (eqb s t) refl h
  where
    go : (b : Bool) → eqb s t ≡ b → (b || any (eqb s) l) ≡ true → Q s
    go true e k = subst Q (sym (eqb-true s t e)) q
    go false e k = f k

first_listed : (t : ℕ) (l : List ℕ) → among t (t ∷ l) ≡ true
unfolding any
first_listed t l = rw (eq-eqb t t refl)

rest_listed : (t : ℕ) (l : List ℕ) (s : ℕ) → among s l ≡ true → among s (t ∷ l) ≡ true
unfolding any
rest_listed t l s h = or_right (eqb s t) _ h

module _ (g : ℕ → ℕ) (t : ℕ) (l : List ℕ) (n : ℕ) where
  spec_none : ((s : ℕ) → among s l ≡ true → g s ≤ n) → (b : Bool) → ltb n (g t) ≡ b → Spec g (t ∷ l) n (cond b (Some (g t)) None)
  spec_none none true e = record {
    above = ltb-true n (g t) e;
    least = λ s h. either_slot (λ r. n < g r → g t ≤ g r) t l s h (λ k. omega arith) (λ k m. let x = none s k in absurd (omega arith));
    slot = t;
    listed = first_listed t l;
    is = refl;
  }
  spec_none none false e = λ s h. either_slot (λ r. g r ≤ n) t l s h (ltb-false n (g t) e) (λ k. none s k)

  spec_some : (y : ℕ) → Lowest g l n y → (b : Bool) → ltb n (g t) ≡ b → (c : Bool) → ltb (g t) y ≡ c → Spec g (t ∷ l) n (cond (b && c) (Some (g t)) (Some y))
  spec_some y low true e true k = record {
    above = ltb-true n (g t) e;
    least = λ s h. either_slot (λ r. n < g r → g t ≤ g r) t l s h (λ i. omega arith) (λ i m. let x = low.least s i m in let z = ltb-true (g t) y k in omega arith);
    slot = t;
    listed = first_listed t l;
    is = refl;
  }
  spec_some y low true e false k = record {
    above = low.above;
    least = λ s h. either_slot (λ r. n < g r → y ≤ g r) t l s h (λ i. ltb-false (g t) y k) (λ i m. low.least s i m);
    slot = low.slot;
    listed = rest_listed t l low.slot low.listed;
    is = low.is;
  }
  spec_some y low false e c k = record {
    above = low.above;
    least = λ s h. either_slot (λ r. n < g r → y ≤ g r) t l s h (λ i. let x = ltb-false n (g t) e in absurd (omega arith)) (λ i m. low.least s i m);
    slot = low.slot;
    listed = rest_listed t l low.slot low.listed;
    is = low.is;
  }

  spec_lower : (r : Option ℕ) → Spec g l n r → Spec g (t ∷ l) n (lower n (g t) r)
  spec_lower None none = spec_none none (ltb n (g t)) refl
  spec_lower (Some y) low = spec_some y low (ltb n (g t)) refl (ltb (g t) y) refl

lowest_spec : (g : ℕ → ℕ) (l : List ℕ) (n : ℕ) → Spec g l n (lowest_above n (map g l))
unfolding lowest_above any
lowest_spec g [] n = λ s h. absurd (false≢true h)
lowest_spec g (t ∷ l) n = spec_lower g t l n (lowest_above n (map g l)) (lowest_spec g l n)

-- ---- gaps

-- a process's regions start at pages (R6)
abbrev pub Aligned : Machine → ℕ → Type 0
Aligned m p = (s : ℕ) → among s (order_of m p) ≡ true → (region_at m p s).start.0 % 4096 ≡ 0

module _ (m : Machine) (p : ℕ) (al : Aligned m p) where
  abbrev start_page : ℕ → ℕ
  start_page s = (region_at m p s).start.0 / 4096

  -- from a page in no region on there is none before the next start
  gap : (page x : ℕ) → region_for m p (page_start page) ≡ None → page ≤ x → ((s : ℕ) → among s (order_of m p) ≡ true → page < start_page s → x < start_page s) → region_for m p (page_start x) ≡ None
  unfolding region_for
  gap page x none h before = go (region_for m p (page_start x)) refl
    where
      go : (r : Option ℕ) → region_for m p (page_start x) ≡ r → r ≡ None
      go None e = refl
      go (Some s) e =
          let found = first_found _ (order_of m p) s e in
          let c = both_true _ _ found.0 in
          let low = leb-true _ _ c.0 in
          let high = ltb-true _ _ c.1 in
          let a = al s found.1 in
          absurd (inside (ltb page (start_page s)) refl found.1 low high a)
        where
          inside : (b : Bool) → ltb page (start_page s) ≡ b → among s (order_of m p) ≡ true → (region_at m p s).start.0 ≤ page_start x → page_start x < span_end (region_at m p s) → (region_at m p s).start.0 % 4096 ≡ 0 → ⊥
          inside true i listed low high a = let y = ltb-true page (start_page s) i in let z = before s listed y in omega arith
          inside false i listed low high a =
              let y = ltb-false page (start_page s) i in
              clash (rw (le-leb (region_at m p s).start.0 (page_start page) (omega arith)) (lt-ltb (page_start page) (span_end (region_at m p s)) (omega arith))) (first_none _ (order_of m p) none s listed)

-- a page of a gap changes nothing
skip_one : (k : ℕ) (s : State) (p page : ℕ) (w : Bool) → region_for s.machine p (page_start page) ≡ None → every_page (suc k) s p page w ≡ every_page k s p (page + 1) w
unfolding every_page
skip_one k s p page w e = ap (λ r. and_then (page_in r s p page w) (λ t. every_page k t p (page + 1) w)) e

skip : (j k : ℕ) (s : State) (p page : ℕ) (w : Bool) → ((x : ℕ) → page ≤ x → x < page + j → region_for s.machine p (page_start x) ≡ None) → every_page (j + k) s p page w ≡ every_page k s p (page + j) w
skip zero k s p page w h = λ i. every_page (zeroth i) s p (same i) w
  where
    zeroth : 0 + k ≡ k
    zeroth = omega arith

    same : page ≡ page + 0
    same = omega arith
skip (suc j) k s p page w h =
    ap (λ (n : ℕ). every_page n s p page w) front ∙ skip_one (j + k) s p page w (h page (omega arith) (omega arith))
    ∙ skip j k s p (page + 1) w (λ x a b. h x (omega arith) (omega arith)) ∙ ap (λ (n : ℕ). every_page k s p n w) back
  where
    front : suc j + k ≡ suc (j + k)
    front = omega arith

    back : page + 1 + j ≡ page + suc j
    back = omega arith

-- ---- the walk

-- regions that start above a page
abbrev ahead : Machine → ℕ → ℕ → ℕ
ahead m p page = count (λ s. ltb page ((region_at m p s).start.0 / 4096)) (order_of m p)

-- what a walk from a page may still take: pages that can be mapped, gaps, and the end
abbrev Enough : ℕ → Machine → ℕ → ℕ → Type 0
Enough n m p page = 128 + ahead m p page < n + below page (mapped_of m p)

-- fewer regions are ahead of a later page
ahead_less : (m : Machine) (p a b : ℕ) → a ≤ b → ahead m p b ≤ ahead m p a
ahead_less m p a b h = count_more _ _ (λ s e. let x = ltb-true b ((region_at m p s).start.0 / 4096) e in lt-ltb a _ (omega arith)) (order_of m p)

-- .. and fewer still ahead of the next start
ahead_fewer : (m : Machine) (p page next : ℕ) → Lowest (λ s. (region_at m p s).start.0 / 4096) (order_of m p) page next → ahead m p next < ahead m p page
ahead_fewer m p page next low =
    count_fewer _ _ (λ s e. let x = ltb-true next ((region_at m p s).start.0 / 4096) e in let y = low.above in lt-ltb page _ (omega arith)) (order_of m p) low.slot low.listed
    (let x = low.above in let y = low.is in lt-ltb page _ (omega arith)) (let y = low.is in le-ltb next _ (omega arith))

-- more pages are mapped below a later page
below_later : (m : Machine) (p a : ℕ) (j : ℕ) → below a (mapped_of m p) ≤ below (a + j) (mapped_of m p)
below_later m p a zero = subst (λ (n : ℕ). below a (mapped_of m p) ≤ below n (mapped_of m p)) (omega arith) (same (below a (mapped_of m p)))
  where
    same : (n : ℕ) → n ≤ n
    same n = omega arith
below_later m p a (suc j) = subst (λ (n : ℕ). below a (mapped_of m p) ≤ below n (mapped_of m p)) (omega arith) (both (below_later m p a j) (below_next (a + j) (mapped_of m p)))
  where
    both : {x y z : ℕ} → x ≤ y → y ≤ z → x ≤ z
    both h k = omega arith

same_then : (t : Try) (f g : State → Try) → (t.answer ≡ Ok tt → f t.state ≡ g t.state) → and_then t f ≡ and_then t g
same_then t f g h = go t.answer h
  where
    go : (d : Result ⊤ Refusal) → (d ≡ Ok tt → f t.state ≡ g t.state) → and_then (record { answer = d; state = t.state }) f ≡ and_then (record { answer = d; state = t.state }) g
    go (Ok tt) k = k refl
    go (Err r) k = refl

none_same : (s : State) (p a b : ℕ) (w : Bool) → every_page 0 s p a w ≡ every_page 0 s p b w
unfolding every_page
none_same s p a b w = refl

aligned_kept : (m n : Machine) (p : ℕ) → n.regions ≡ m.regions → order_of n p ≡ order_of m p → Aligned m p → Aligned n p
aligned_kept m n p r o al s h = subst (λ l. (get_or l (row_of p s) no_region).start.0 % 4096 ≡ 0) (sym r) (al s (subst (λ l. among s l ≡ true) o h))

ahead_kept : (m n : Machine) (p page : ℕ) → n.regions ≡ m.regions → order_of n p ≡ order_of m p → ahead n p page ≡ ahead m p page
ahead_kept m n p page r o = λ i. count (λ s. ltb page ((get_or (r i) (row_of p s) no_region).start.0 / 4096)) (o i)

module _ (p last : ℕ) (w : Bool) where
  -- what is left to walk, by induction
  abbrev Walks : ℕ → Type 0
  Walks n = (s : State) (page : ℕ) → Fits s.machine p → Aligned s.machine p → Enough n s.machine p page → visit n s p page last w ≡ every_page (suc last - page) s p page w

  module _ (n : ℕ) (ih : Walks n) (s : State) (page : ℕ) (f : Fits s.machine p) (al : Aligned s.machine p) (e : Enough (suc n) s.machine p page) (more : page ≤ last) where
    abbrev left : ℕ
    left = last - page

    one_more : suc last - page ≡ suc left
    one_more = omega arith

    in_region : (slot : ℕ) → region_for s.machine p (page_start page) ≡ Some slot → and_then (populate_page s p slot page w) (λ t. visit n t p (page + 1) last w) ≡ every_page (suc last - page) s p page w
    unfolding every_page
    in_region slot found =
        same_then (populate_page s p slot page w) _ _ next
        ∙ ap (λ r. and_then (page_in r s p page w) (λ t. every_page left t p (page + 1) w)) (sym found) ∙ ap (λ (k : ℕ). every_page k s p page w) (sym one_more)
      where
        next : (populate_page s p slot page w).answer ≡ Ok tt → visit n (populate_page s p slot page w).state p (page + 1) last w ≡ every_page left (populate_page s p slot page w).state p (page + 1) w
        next good =
            let m = s.machine in
            let t = (populate_page s p slot page w).state in
            let went = went_page s p slot page w f good in
            let less = ahead_less t.machine p page (page + 1) (omega arith) in
            let kept = ahead_kept m t.machine p page went.regions went.order in
            let up : below (suc page) (mapped_of t.machine p) ≡ below (page + 1) (mapped_of t.machine p) = ap (λ (k : ℕ). below k (mapped_of t.machine p)) (sym (add-one page)) in
            let mapped = went.more in
            let rest : suc last - (page + 1) ≡ left = omega arith in
            ih t (page + 1) went.fits (aligned_kept m t.machine p went.regions went.order al) (omega arith) ∙ ap (λ (k : ℕ). every_page k t p (page + 1) w) rest

    -- a gap that ends at a region's start
    to_start : region_for s.machine p (page_start page) ≡ None → (next : ℕ) → Lowest (λ r. (region_at s.machine p r).start.0 / 4096) (order_of s.machine p) page next → visit n s p next last w ≡ every_page (suc last - page) s p page w
    to_start none next low = go (ltb (suc last) next) refl
      where
        gone : (x : ℕ) → page ≤ x → x < next → region_for s.machine p (page_start x) ≡ None
        gone x a b = gap s.machine p al page x none a (λ r listed above. let k = low.least r listed above in omega arith)

        walked : visit n s p next last w ≡ every_page (suc last - next) s p next w
        walked =
            let fewer = ahead_fewer s.machine p page next low in
            let up = low.above in
            let further = below_later s.machine p page (next - page) in
            let there : below (page + (next - page)) (mapped_of s.machine p) ≡ below next (mapped_of s.machine p) = ap (λ (k : ℕ). below k (mapped_of s.machine p)) (omega arith) in
            ih s next f al (omega arith)

        go : (b : Bool) → ltb (suc last) next ≡ b → visit n s p next last w ≡ every_page (suc last - page) s p page w
        go true q =
            let past = ltb-true (suc last) next q in
            let here : suc last - page + 0 ≡ suc last - page = omega arith in
            let none_left : suc last - next ≡ 0 = omega arith in
            walked ∙ ap (λ (k : ℕ). every_page k s p next w) none_left ∙ none_same s p next (page + (suc last - page)) w
            ∙ sym (skip (suc last - page) 0 s p page w (λ x a b. gone x a (omega arith))) ∙ ap (λ (k : ℕ). every_page k s p page w) here
        go false q =
            let upto = ltb-false (suc last) next q in
            let up = low.above in
            let whole : next - page + (suc last - next) ≡ suc last - page = omega arith in
            let there : page + (next - page) ≡ next = omega arith in
            walked ∙ ap (λ (k : ℕ). every_page (suc last - next) s p k w) (sym there) ∙ sym (skip (next - page) (suc last - next) s p page w (λ x a b. gone x a (omega arith))) ∙ ap (λ (k : ℕ). every_page k s p page w) whole

    -- a gap without an end
    to_none : region_for s.machine p (page_start page) ≡ None → ((r : ℕ) → among r (order_of s.machine p) ≡ true → (region_at s.machine p r).start.0 / 4096 ≤ page) → fine s ≡ every_page (suc last - page) s p page w
    unfolding every_page
    to_none none all =
        let here : suc last - page + 0 ≡ suc last - page = omega arith in
        sym (skip (suc last - page) 0 s p page w (λ x a b. gap s.machine p al page x none a (λ r listed above. let k = all r listed in absurd (omega arith)))) ∙ ap (λ (k : ℕ). every_page k s p page w) here

    in_gap : region_for s.machine p (page_start page) ≡ None → (x : Option ℕ) → next_start s.machine p page ≡ x → elim x [ Some next ↦ visit n s p next last w | None ↦ fine s ] ≡ every_page (suc last - page) s p page w
    unfolding next_start
    in_gap none (Some next) q = to_start none next (subst (λ r. Spec (λ r. (region_at s.machine p r).start.0 / 4096) (order_of s.machine p) page r) q (lowest_spec _ (order_of s.machine p) page))
    in_gap none None q = to_none none (subst (λ r. Spec (λ r. (region_at s.machine p r).start.0 / 4096) (order_of s.machine p) page r) q (lowest_spec _ (order_of s.machine p) page))

    on_page : (r : Option ℕ) → region_for s.machine p (page_start page) ≡ r → elim r [ Some slot ↦ and_then (populate_page s p slot page w) (λ t. visit n t p (page + 1) last w) | None ↦ elim (next_start s.machine p page) [ Some next ↦ visit n s p next last w | None ↦ fine s ] ] ≡ every_page (suc last - page) s p page w
    on_page (Some slot) q = in_region slot q
    on_page None q = in_gap q (next_start s.machine p page) refl

  -- populate's walk is every page from `page` to `last` in turn
  pub visit_every : (n : ℕ) → Walks n
  unfolding visit every_page
  visit_every zero s page f al e = let k = below_most page (mapped_of s.machine p) in let h = f.few in absurd (omega arith)
  visit_every (suc n) s page f al e = go (ltb last page) refl (visit_every n)
    where
      go : (b : Bool) → ltb last page ≡ b → Walks n → elim b [ true ↦ fine s | false ↦ elim (region_for s.machine p (page_start page)) [ Some slot ↦ and_then (populate_page s p slot page w) (λ t. visit n t p (page + 1) last w) | None ↦ elim (next_start s.machine p page) [ Some next ↦ visit n s p next last w | None ↦ fine s ] ] ] ≡ every_page (suc last - page) s p page w
      go true q ih = let past = ltb-true last page q in let none : suc last - page ≡ 0 = omega arith in ap (λ (k : ℕ). every_page k s p page w) (sym none)
      go false q ih = on_page n ih s page f al e (ltb-false last page q) (region_for s.machine p (page_start page)) refl
