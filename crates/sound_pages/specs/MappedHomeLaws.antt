-- Laws of `MappedHome`: the home of a page in a machine that is laid out: at most one attached region holds an address, so the first that does is the only one.
use Rattle.std.specs.Prelude.{◌≡◌, Bool, true, false, cond, List, [], ◌∷◌, ℕ, zero, suc, ◌^◌, ◌≤◌, ◌<◌, length, get_or, ltb, leb, Option, Some, None}
use Rattle.std.proofs.Math.Path.{refl, ap, sym}
use Rattle.std.proofs.Common.{subst, ◌∙◌, zero-le, suc-le-suc, arith, ltb-true, ltb-false}
use Rattle.std.proofs.Math.Decide.{ℕ_discrete}
use Rattle.std.proofs.Math.Numerals.{lt_of_le_of_ne}
use Rattle.model.specs.declared.Region.{Region}
use Rattle.laws.specs.Lists.{keep, among}
use Rattle.model.specs.Layout.{machine}
use Rattle.model.specs.Machine.{no_region, region_at, row_of, order_of, user_end}
use Rattle.model.specs.Lookup.{first_slot, contains, span_end, segment_end, regions_of, region_for}
use Rattle.laws.specs.BoolLaws.{clash, both_true}
use Rattle.model.specs.LookupLaws.{first_found, first_none}
use Rattle.model.specs.Paging.{page_start}
use Rattle.model.proofs.PopulateSoundLaws.{place_of}
use Rattle.model.specs.Sound.{Used, Apart, homes, only}
use Rattle.lookup.specs.LookupsLaws.{processes_length, regions_length, slots_length}
use Rattle.laws.specs.ListsLaws.{part_at}
use Rattle.sound_pages.specs.Laid.{Laid}
use Rattle.sound_pages.specs.MappedHome.{home_at}
use Rattle.model.specs.RuleUseLaws.{apart_alone}

-- ---- a test that at most one slot passes

abbrev Once : (ℕ → Bool) → List ℕ → Type 0
Once f l = (i j : ℕ) → i < j → j < length l → f (get_or l i 0) ≡ true → f (get_or l j 0) ≡ true → ⊥

keep_none : (f : ℕ → Bool) (l : List ℕ) → ((j : ℕ) → j < length l → f (get_or l j 0) ≡ true → ⊥) → keep f l ≡ []
unfolding keep
keep_none f [] n = refl
keep_none f (x ∷ l) n = go (f x) refl (keep_none f l (λ j h. n (suc j) (suc-le-suc h)))
  where
    go : (b : Bool) → f x ≡ b → keep f l ≡ [] → cond b (x ∷ keep f l) (keep f l) ≡ []
    go true e ih = absurd (n zero (suc-le-suc zero-le) e)
    go false e ih = ih

only_first : (f : ℕ → Bool) (l : List ℕ) → Once f l → only (keep f l) ≡ first_slot f l
unfolding keep first_slot
only_first f [] o = refl
only_first f (x ∷ l) o = go (f x) refl (only_first f l (λ i j h k. o (suc i) (suc j) (suc-le-suc h) (suc-le-suc k)))
  where
    go : (b : Bool) → f x ≡ b → only (keep f l) ≡ first_slot f l → only (cond b (x ∷ keep f l) (keep f l)) ≡ cond b (Some x) (first_slot f l)
    go true e ih = ap (λ t. only (x ∷ t)) (keep_none f l (λ j h. o zero (suc j) (suc-le-suc zero-le) (suc-le-suc h) e))
    go false e ih = ih

-- a segment of user addresses holds no start of a page past them
past_user : (r : Region) (page : ℕ) → segment_end r ≤ user_end → contains r (page_start page) ≡ true → 2 ^ 52 ≤ page → ⊥
past_user r page h k l = let b = ltb-true (page_start page) (span_end r) (both_true (leb r.start.0 (page_start page)) (ltb (page_start page) (span_end r)) k).1 in omega arith

module _ (w : List ℕ) (laid : Laid (machine w)) (p : ℕ) (small : p < 8) where
  process_row : p < length (machine w).processes
  process_row = rw processes_length small

  -- of two slots in use, the first before the second, one does not hold an address
  before_apart : (s t a : ℕ) → s < t → t < 64 → Used (region_at (machine w) p s) → Used (region_at (machine w) p t) → contains (region_at (machine w) p s) a ≡ true → contains (region_at (machine w) p t) a ≡ true → ⊥
  before_apart s t a h k u v =
      apart_alone (region_at (machine w) p s) (region_at (machine w) p t) a
      (subst (λ (r : Region). Apart r (region_at (machine w) p t)) (at s (omega arith))
      (subst (λ (x : Region). Apart (get_or (regions_of (machine w) p) s no_region) x) (at t k)
      (laid.apart p process_row s t h (rw (slots_length w p small) k) (subst Used (sym (at s (omega arith))) u) (subst Used (sym (at t k)) v))))
    where
      at : (i : ℕ) → i < 64 → get_or (regions_of (machine w) p) i no_region ≡ region_at (machine w) p i
      at i h = part_at (machine w).regions 64 p i no_region h

  -- one region of a process holds an address
  pub alone : (s t a : ℕ) → s < 64 → t < 64 → Used (region_at (machine w) p s) → Used (region_at (machine w) p t) → contains (region_at (machine w) p s) a ≡ true → contains (region_at (machine w) p t) a ≡ true → s ≡ t
  alone s t a h k u v e f = go (ℕ_discrete s t) (ltb s t) refl
    where
      go : Dec (s ≡ t) → (b : Bool) → ltb s t ≡ b → s ≡ t
      go (yes q) b d = q
      go (no n) true d = absurd (before_apart s t a (ltb-true s t d) k u v e f)
      go (no n) false d = absurd (before_apart t s a (lt_of_le_of_ne (ltb-false s t d) (λ q. n (sym q))) h v u f e)

  -- an attached slot is one of the 64, and in use
  pub attached_used : (s : ℕ) → among s (order_of (machine w) p) ≡ true → (s < 64) × Used (region_at (machine w) p s)
  attached_used s e =
      let q = place_of s (order_of (machine w) p) e in
      subst (λ (x : ℕ). (x < 64) × Used (region_at (machine w) p x)) q.is ((laid.ordered p process_row).listed q.at q.inside)

  pub home_is : (page : ℕ) → home_at (machine w) p page ≡ region_for (machine w) p (page_start page)
  unfolding homes region_for
  home_is page = only_first (λ s. contains (region_at (machine w) p s) (page_start page)) (order_of (machine w) p) once
    where
      once : Once (λ s. contains (region_at (machine w) p s) (page_start page)) (order_of (machine w) p)
      once i j h k e f =
          let a = (laid.ordered p process_row).listed i (omega arith) in
          let b = (laid.ordered p process_row).listed j k in
          (laid.ordered p process_row).once i j h k tt (alone _ _ (page_start page) a.0 b.0 a.1 b.1 e f)

  pub record Home (page s : ℕ) : Type 0 where
    pub attached : among s (order_of (machine w) p) ≡ true
    pub low : s < 64
    pub used : Used (region_at (machine w) p s)
    pub holds : contains (region_at (machine w) p s) (page_start page) ≡ true

  pub home_of_is : (page s : ℕ) → home_at (machine w) p page ≡ Some s → Home page s
  unfolding region_for
  home_of_is page s e =
      let f = first_found (λ s. contains (region_at (machine w) p s) (page_start page)) (order_of (machine w) p) s (sym (home_is page) ∙ e) in
      let u = attached_used s f.1 in
      record { attached = f.1; low = u.0; used = u.1; holds = f.0 }

  -- an attached region that holds the page's start is its home
  pub home_here : (page s : ℕ) → among s (order_of (machine w) p) ≡ true → contains (region_at (machine w) p s) (page_start page) ≡ true → Some s ≡ home_at (machine w) p page
  unfolding region_for
  home_here page s l h = go (home_at (machine w) p page) refl
    where
      go : (f : Option ℕ) → home_at (machine w) p page ≡ f → Some s ≡ home_at (machine w) p page
      go None e = clash h (first_none (λ s. contains (region_at (machine w) p s) (page_start page)) (order_of (machine w) p) (sym (home_is page) ∙ e) s l)
      go (Some t) e =
          let a = home_of_is page t e in
          let u = attached_used s l in
          ap (λ (x : ℕ). Some x) (alone s t (page_start page) u.0 a.low u.1 a.used h a.holds) ∙ sym e

  -- a page past the user addresses has none
  pub home_past : (page : ℕ) → 2 ^ 52 ≤ page → None ≡ home_at (machine w) p page
  home_past page h = go (home_at (machine w) p page) refl
    where
      go : (f : Option ℕ) → home_at (machine w) p page ≡ f → None ≡ home_at (machine w) p page
      go None e = sym e
      go (Some t) e =
          let a = home_of_is page t e in
          let low = a.low in
          let row : row_of p t < length (machine w).regions = rw regions_length (omega arith) in
          absurd (past_user (region_at (machine w) p t) page ((laid.regions (row_of p t) row).used a.used).user_segment a.holds h)
