-- Laws of `Named`: the refusals of calls that name a process or a region, way by way.
use Rattle.std.specs.Prelude.{◌≡◌, false, List, [], ℕ, ◌<◌, Option, Some, None, Result, Ok, Err, ok_or, ⊤}
use Rattle.std.proofs.Math.Path.{refl}
use Rattle.std.proofs.Common.{ap, sym, ◌∙◌, arith}
use Rattle.std.proofs.Math.Bool.{true, not}
use Rattle.std.proofs.lemmas.Bool.{false≢true, not-false}
use Rattle.answers.specs.declared.Refusal.{Refusal}
use Rattle.answers.specs.declared.Refusal.TheVariants.{NoProcess, BadAddress, NoRegion}
use Rattle.address.specs.Canonical.{user}
use Rattle.model.specs.Layout.{machine}
use Rattle.model.specs.Lookup.{is_open, is_found, row_found, region_for}
use Rattle.model.specs.Answers.{first_of}
use Rattle.model.specs.Refusals.{process_refusals, region_refusals, slot_at}
use Rattle.lookup.specs.FirstOfLaws.{first_here, first_later, first_none, first_passed, not_no, not_yes, open_small}
use Rattle.rows.specs.LentMemory.{words_alone}
use Rattle.lookup.specs.Named.{named_by}

pub process_open : (w : List ℕ) (p : ℕ) → is_open (machine w) p ≡ true → Ok tt ≡ first_of (process_refusals (words_alone w) p)
unfolding process_refusals
process_open w p o = first_later _ NoProcess [] (Ok tt) (not_yes _ o) first_none

pub process_closed : (w : List ℕ) (p : ℕ) → is_open (machine w) p ≡ false → Err NoProcess ≡ first_of (process_refusals (words_alone w) p)
unfolding process_refusals
process_closed w p o = first_here _ NoProcess [] (not_no _ o)

-- where nothing refuses, the process is open
pub process_yes : (w : List ℕ) (p : ℕ) → Ok tt ≡ first_of (process_refusals (words_alone w) p) → p < 8
unfolding process_refusals
process_yes w p e = open_small w p (not-false _ (first_passed _ NoProcess [] e).0)

pub named_slot : (d : Result ⊤ Refusal) (i j : ℕ) (n : Result ℕ Refusal) → n ≡ named_by d i → n ≡ Ok j → (Ok tt ≡ d) × (j ≡ i)
named_slot (Ok tt) i j n e f = (refl, let g : Ok j ≡ Ok i = sym f ∙ e in cc)
named_slot (Err r) i j n e f = let z : ◌≡◌ {A = ℕ} 0 1 = let g : Ok j ≡ Err r = sym f ∙ e in cc in absurd (omega arith)

pub named_no : (d : Result ⊤ Refusal) (i : ℕ) (r : Refusal) (n : Result ℕ Refusal) → n ≡ named_by d i → n ≡ Err r → Err r ≡ d
named_no (Ok tt) i r n e f = let z : ◌≡◌ {A = ℕ} 0 1 = let g : Err r ≡ Ok i = sym f ∙ e in cc in absurd (omega arith)
named_no (Err q) i r n e f = let g : Err r ≡ Err q = sym f ∙ e in let h : r ≡ q = cc in ap (λ x. Err x) h

module _ (w : List ℕ) (p a : ℕ) where
  abbrev here : Result ℕ Refusal
  here = named_by (first_of (region_refusals (words_alone w) p a)) (slot_at (words_alone w) p a)

  no_slot : (r : Refusal) → Err r ≡ first_of (region_refusals (words_alone w) p a) → Err r ≡ here
  no_slot r e = ap (λ (d : Result ⊤ Refusal). named_by d (slot_at (words_alone w) p a)) e

  pub region_closed : is_open (machine w) p ≡ false → Err NoProcess ≡ here
  unfolding region_refusals
  region_closed o = no_slot NoProcess (first_here _ NoProcess _ (not_no _ o))

  pub region_address : is_open (machine w) p ≡ true → user a ≡ false → Err BadAddress ≡ here
  unfolding region_refusals
  region_address o u = no_slot BadAddress (first_later _ NoProcess _ _ (not_yes _ o) (first_here _ BadAddress _ (not_no _ u)))

  pub region_none : is_open (machine w) p ≡ true → user a ≡ true → None ≡ region_for (machine w) p a → Err NoRegion ≡ here
  unfolding region_refusals
  region_none o u f = no_slot NoRegion (first_later _ NoProcess _ _ (not_yes _ o) (first_later _ BadAddress _ _ (not_yes _ u) (first_here _ NoRegion _ (ap (λ x. not (is_found x)) (sym f)))))

  pub region_some : is_open (machine w) p ≡ true → user a ≡ true → (i : ℕ) → Some i ≡ region_for (machine w) p a → Ok i ≡ here
  unfolding region_refusals
  region_some o u i f = λ k. named_by (all_pass k) (row_found (f k))
    where
      all_pass : Ok tt ≡ first_of (region_refusals (words_alone w) p a)
      all_pass = first_later _ NoProcess _ _ (not_yes _ o) (first_later _ BadAddress _ _ (not_yes _ u) (first_later _ NoRegion _ _ (ap (λ x. not (is_found x)) (sym f)) first_none))

  pub region_or : is_open (machine w) p ≡ true → user a ≡ true → (f : Option ℕ) → f ≡ region_for (machine w) p a → ok_or f NoRegion ≡ here
  region_or o u None e = region_none o u e
  region_or o u (Some i) e = region_some o u i e

  -- where nothing refuses, the process is open and the slot is that of the region there
  pub region_yes : Ok tt ≡ first_of (region_refusals (words_alone w) p a) → (is_open (machine w) p ≡ true) × (Some (slot_at (words_alone w) p a) ≡ region_for (machine w) p a)
  unfolding region_refusals
  region_yes e =
      let one = first_passed _ NoProcess _ e in
      let two = first_passed _ BadAddress _ one.1 in
      let three = first_passed _ NoRegion _ two.1 in
      (not-false _ one.0, found (region_for (machine w) p a) (not-false _ three.0))
    where
      found : (x : Option ℕ) → is_found x ≡ true → Some (row_found x) ≡ x
      found (Some i) q = refl
      found None q = absurd (false≢true q)
