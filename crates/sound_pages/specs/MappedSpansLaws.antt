-- Laws of `MappedSpans`: the rows between which a process's entries lie, found in one pass over the entries; the pass that marks looks at no others.
use Rattle.std.specs.Prelude.{◌≡◌, ◌≢◌, true, List, ℕ, ◌+◌, ◌-◌, ◌*◌, ◌/◌, ◌≤◌, ◌<◌, get_or, set, replicate, ltb, leb}
use Rattle.std.proofs.Common.{ap, sym, subst, ◌∙◌, arith, length-set, get_or-set_same, get_or-set_other, ltb-true, leb-true}
use Rattle.std.proofs.Math.Decide.{ℕ_discrete}
use Rattle.std.proofs.lemmas.List.{length-replicate, get_or-replicate}
use Rattle.model.specs.declared.Entry.{Entry}
use Rattle.model.specs.Machine.{Machine}
use Rattle.laws.specs.BoolLaws.{both_true}
use Rattle.sound_pages.specs.MappedMarks.{of_process, Seen}
use Rattle.sound_pages.specs.MappedSpans.{entry, ProcessOf, Spanned, Spans, Unspanned}

-- the process of the last entry, if any, has a first entry
abbrev pub Begun : List ℕ → ℕ → Type 0
Begun firsts last = last < 8 → get_or firsts last 0 ≢ 512

-- ---- the process of an entry

in_process : (q : ℕ) (e : Entry) → of_process q e ≡ true → (q * 64 < e.owner) × (e.owner ≤ q * 64 + 64)
in_process q e o = let b = both_true (ltb (q * 64) e.owner) (leb e.owner (q * 64 + 64)) o in (ltb-true (q * 64) e.owner b.0, leb-true e.owner (q * 64 + 64) b.1)

module _ (e : Entry) where
  pub owner_none : e.owner ≡ 0 → ProcessOf e 8
  owner_none z = record { most = omega arith; only = λ q h o. let b = (in_process q e o).0 in absurd (omega arith) }

  pub owner_past : 512 < e.owner → ProcessOf e 8
  owner_past l = record { most = omega arith; only = λ q h o. let b = (in_process q e o).1 in absurd (omega arith) }

  pub owner_some : e.owner ≢ 0 → e.owner ≤ 512 → ProcessOf e ((e.owner - 1) / 64)
  owner_some n l = record { most = omega arith; only = λ q h o. let a = (in_process q e o).0 in let b = (in_process q e o).1 in omega arith }

-- ---- the pass over the entries

pub unspanned : Unspanned (replicate 8 512) (replicate 8 0)
unspanned = record {
  few = length-replicate {A = ℕ} 8 512;
  many = length-replicate {A = ℕ} 8 0;
  first = λ p h. get_or-replicate {A = ℕ} 8 p 512 0 h;
  past = λ p h. get_or-replicate {A = ℕ} 8 p 0 0 h;
}

module _ (m : Machine) where
  pub spans_none : (firsts pasts : List ℕ) → Unspanned firsts pasts → Spans m firsts pasts 0
  spans_none firsts pasts u = record {
    low = omega arith;
    few = u.few;
    many = u.many;
    first = λ p h n. absurd (n (u.first p h));
    past = λ p h. let z = u.past p h in omega arith;
    each = λ p k h l. absurd (omega arith);
  }

  module _ (firsts pasts : List ℕ) (j : ℕ) (s : Spans m firsts pasts j) (h : j < 512) (e : Entry) (read : e ≡ entry m j) (q : ℕ) (is : ProcessOf e q) where
    -- a process that has entry j
    own : (p k : ℕ) → p < 8 → k ≡ j → of_process p (entry m k) ≡ true → p ≡ q
    own p k l z o = is.only p l (ap (λ (x : Entry). of_process p x) (read ∙ ap (λ (i : ℕ). entry m i) (sym z)) ∙ o)

    -- it is of no process
    pub spans_skip : q ≡ 8 → Spans m firsts pasts (j + 1)
    spans_skip none = record {
      low = omega arith;
      few = s.few;
      many = s.many;
      first = λ p l n. let b = s.first p l n in omega arith;
      past = λ p l. let b = s.past p l in omega arith;
      each = λ p k l u o. go p k l u o (ℕ_discrete k j);
    }
      where
        go : (p k : ℕ) → p < 8 → k < j + 1 → of_process p (entry m k) ≡ true → Dec (k ≡ j) → (get_or firsts p 0 ≤ k) × (k < get_or pasts p 0)
        go p k l u o (yes z) = let a = own p k l z o in absurd (omega arith)
        go p k l u o (no n) = s.each p k l (omega arith) o

    module _ (low : q < 8) where
      abbrev new : List ℕ
      new = set pasts q (j + 1)

      new_own : (p : ℕ) → p ≡ q → get_or new p 0 ≡ j + 1
      new_own p z = ap (λ (i : ℕ). get_or new i 0) z ∙ get_or-set_same pasts q (j + 1) 0 (let b = s.many in omega arith)

      new_other : (p : ℕ) → p ≢ q → get_or new p 0 ≡ get_or pasts p 0
      new_other p n = get_or-set_other pasts q p (j + 1) 0 n

      new_most : (p : ℕ) → p < 8 → Dec (p ≡ q) → (get_or new p 0 ≤ j + 1) × (get_or pasts p 0 ≤ get_or new p 0)
      new_most p l (yes z) = let a = new_own p z in let b = s.past p l in (omega arith, omega arith)
      new_most p l (no n) = let a = new_other p n in let b = s.past p l in (omega arith, omega arith)

      -- not the first of its process
      pub spans_more : get_or firsts q 0 ≢ 512 → Spans m firsts new (j + 1)
      spans_more n = record {
        low = omega arith;
        few = s.few;
        many = length-set pasts q (j + 1) ∙ s.many;
        first = λ p l u. let b = s.first p l u in omega arith;
        past = λ p l. (new_most p l (ℕ_discrete p q)).0;
        each = λ p k l u o. go p k l u o (ℕ_discrete k j);
      }
        where
          go : (p k : ℕ) → p < 8 → k < j + 1 → of_process p (entry m k) ≡ true → Dec (k ≡ j) → (get_or firsts p 0 ≤ k) × (k < get_or new p 0)
          go p k l u o (yes z) =
              let a = own p k l z o in
              let c = s.first q low n in
              let d = new_own p a in
              let e = ap (λ (i : ℕ). get_or firsts i 0) a in
              (omega arith, omega arith)
          go p k l u o (no v) =
              let b = s.each p k l (omega arith) o in
              let c = b.0 in
              let d = b.1 in
              let f = (new_most p l (ℕ_discrete p q)).1 in
              (c, omega arith)

      -- nor if the entry before was of the same
      pub spans_again : (last : ℕ) → Begun firsts last → q ≡ last → Spans m firsts new (j + 1)
      spans_again last begun e = spans_more (λ z. begun (omega arith) (ap (λ (i : ℕ). get_or firsts i 0) (sym e) ∙ z))

      -- its process has a first entry now
      pub first_begun : Begun (set firsts q j) q
      first_begun l z = let b = s.few in let a = get_or-set_same firsts q j 0 (omega arith) in absurd (omega arith)

      -- the first of its process
      pub spans_first : get_or firsts q 0 ≡ 512 → Spans m (set firsts q j) new (j + 1)
      spans_first f = record {
        low = omega arith;
        few = length-set firsts q j ∙ s.few;
        many = length-set pasts q (j + 1) ∙ s.many;
        first = λ p l u. low_first p l u (ℕ_discrete p q);
        past = λ p l. (new_most p l (ℕ_discrete p q)).0;
        each = λ p k l u o. go p k l u o (ℕ_discrete p q) (ℕ_discrete k j);
      }
        where
          at_own : (p : ℕ) → p ≡ q → get_or (set firsts q j) p 0 ≡ j
          at_own p z = ap (λ (i : ℕ). get_or (set firsts q j) i 0) z ∙ get_or-set_same firsts q j 0 (let b = s.few in omega arith)

          at_other : (p : ℕ) → p ≢ q → get_or (set firsts q j) p 0 ≡ get_or firsts p 0
          at_other p n = get_or-set_other firsts q p j 0 n

          low_first : (p : ℕ) → p < 8 → get_or (set firsts q j) p 0 ≢ 512 → Dec (p ≡ q) → get_or (set firsts q j) p 0 ≤ j + 1
          low_first p l u (yes z) = let a = at_own p z in omega arith
          low_first p l u (no n) = let a = at_other p n in let b = s.first p l (λ z. u (a ∙ z)) in omega arith

          go : (p k : ℕ) → p < 8 → k < j + 1 → of_process p (entry m k) ≡ true → Dec (p ≡ q) → Dec (k ≡ j) → (get_or (set firsts q j) p 0 ≤ k) × (k < get_or new p 0)
          go p k l u o (yes z) (yes y) = let a = at_own p z in let b = new_own p z in (omega arith, omega arith)
          go p k l u o (yes z) (no n) =
              let b = (s.each p k l (omega arith) o).0 in
              let c = ap (λ (i : ℕ). get_or firsts i 0) z in
              absurd (omega arith)
          go p k l u o (no n) (yes y) = absurd (n (own p k l y o))
          go p k l u o (no n) (no y) =
              let b = s.each p k l (omega arith) o in
              let c = b.0 in
              let d = b.1 in
              let e = at_other p n in
              let f = new_other p n in
              (omega arith, omega arith)

  pub spans_all : (firsts pasts : List ℕ) (j : ℕ) → Spans m firsts pasts j → 512 ≤ j → Spans m firsts pasts 512
  spans_all firsts pasts j s h = let b = s.low in subst (λ (i : ℕ). Spans m firsts pasts i) (omega arith) s

  pub spans_process : (firsts pasts : List ℕ) → Spans m firsts pasts 512 → (p : ℕ) → p < 8 → Spanned m p (get_or firsts p 0) (get_or pasts p 0)
  spans_process firsts pasts s p l k h o = s.each p k l h o

  pub spans_low : (firsts pasts : List ℕ) → Spans m firsts pasts 512 → (p : ℕ) → p < 8 → (get_or firsts p 0 ≤ 512) × (get_or pasts p 0 ≤ 512)
  spans_low firsts pasts s p l = (go (ℕ_discrete (get_or firsts p 0) 512), s.past p l)
    where
      go : Dec (get_or firsts p 0 ≡ 512) → get_or firsts p 0 ≤ 512
      go (yes z) = omega arith
      go (no n) = s.first p l n

  -- ---- the pass that marks

  module _ (p from to : ℕ) (span : Spanned m p from to) (marks : List ℕ) where
    -- no entry before the first row is of the process
    pub seen_from : from ≤ 512 → Seen m p 0 marks → Seen m p from marks
    seen_from low seen = record { every = λ k i h s. let b = (span k (omega arith) s.owned).0 in absurd (omega arith); some = seen.some }

    -- and none from the last one on
    pub seen_to : (i : ℕ) → to ≤ i → Seen m p i marks → Seen m p 512 marks
    seen_to i past seen = record { every = λ k r h s. let b = (span k h s.owned).1 in seen.every k r (omega arith) s; some = seen.some }
