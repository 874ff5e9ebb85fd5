-- A function done to mapped rows one after the other, and what that is of a page table.
use Rattle.std.specs.Prelude.{◌≡◌, length, get_or, set}
use Rattle.std.proofs.Math.Path.{refl, ap}
use Rattle.std.proofs.Common.{sym, subst, ◌∙◌, le_of_suc-le-suc, not-suc-le-zero, add-one, length-set}
use mathlib.Core.List.{List, [], ◌∷◌, map}
use Prim.Native.Nat.{ℕ, zero, suc, ◌+◌, ◌≤◌, ◌<◌}
use Rattle.std.proofs.lemmas.List.{length-map}
use Rattle.model.specs.declared.Mapping.{Mapping}
use Rattle.laws.specs.Lists.{pad}
use Rattle.model.specs.Machine.{Machine, mapped_of, with_mapped, no_mapping}
use Rattle.model.specs.Layout.{word_count, machine}
use Rattle.paging.specs.ProcessRows.{rows_of, with_rows}
use Rattle.paging.specs.ProcessRowsLaws.{mapped_most, Rowed, rowed_first, rowed_put}
use Rattle.paging.specs.MapperLaws.{padded, rows_put}
use Rattle.paging.specs.WellPaged.{WellPaged}
use Rattle.remap.specs.Remapped.{rows_done, remapped}

module _ (h : Mapping → Mapping) where
  done_at : (l : List Mapping) (i : ℕ) → get_or (rows_done h i l) i no_mapping ≡ get_or l i no_mapping
  unfolding rows_done
  done_at [] zero = refl
  done_at [] (suc i) = refl
  done_at (x ∷ l) zero = refl
  done_at (x ∷ l) (suc i) = done_at l i

  done_more : (l : List Mapping) (i : ℕ) → set (rows_done h i l) i (h (get_or l i no_mapping)) ≡ rows_done h (suc i) l
  unfolding rows_done
  done_more [] zero = refl
  done_more [] (suc i) = refl
  done_more (x ∷ l) zero = refl
  done_more (x ∷ l) (suc i) = ap (λ t. h x ∷ t) (done_more l i)

  done_same : ((x : Mapping) → h x ≡ x) → (l : List Mapping) (i : ℕ) → rows_done h i l ≡ l
  unfolding rows_done
  done_same e [] zero = refl
  done_same e [] (suc i) = refl
  done_same e (x ∷ l) zero = refl
  done_same e (x ∷ l) (suc i) = λ k. e x k ∷ done_same e l i k

  done_pad : (k : ℕ) (l : List Mapping) → length l ≤ k → rows_done h (length l) (pad k no_mapping l) ≡ pad k no_mapping (map h l)
  unfolding rows_done pad
  done_pad k [] e = refl
  done_pad zero (x ∷ l) e = absurd (not-suc-le-zero e)
  done_pad (suc k) (x ∷ l) e = ap (λ t. h x ∷ t) (done_pad k l (le_of_suc-le-suc e))

  -- ---- of a page table that is well formed: the model's list, each done

  module _ (m : Machine) (p : ℕ) (w : WellPaged m p) where
    pub remapped_is : remapped h m p ≡ with_mapped m p (map h (mapped_of m p))
    unfolding remapped
    remapped_is =
        rows_put m p w (rows_done h (length (mapped_of m p)) (rows_of m p)) (map h (mapped_of m p))
        (ap (λ t. rows_done h (length (mapped_of m p)) t) (padded m p w) ∙ done_pad 128 (mapped_of m p) (mapped_most m p w.process w.table))
        (length-map (mapped_of m p) h)

  -- ---- the loop: i rows are done

  abbrev pub Doing : List ℕ → ℕ → List ℕ → ℕ → Type 0
  Doing w₀ p w i = Rowed (machine w₀) p w (rows_done h i (rows_of (machine w₀) p))

  module _ (w₀ : List ℕ) (p : ℕ) (low : p < 8) where
    pub doing_first : length w₀ ≡ word_count → Doing w₀ p w₀ 0
    unfolding rows_done
    doing_first s = rowed_first w₀ p low s

    pub doing_more : (w : List ℕ) (i : ℕ) → Doing w₀ p w i → (v : List ℕ) → length v ≡ length w → (g : Mapping → Mapping) → ((x : Mapping) → g x ≡ h x) → machine v ≡ with_rows (machine w) p (set (rows_of (machine w) p) i (g (get_or (rows_of (machine w) p) i no_mapping))) → Doing w₀ p v (i + 1)
    doing_more w i k v long g same put =
        let start = rows_of (machine w₀) p in
        let rows = rows_done h i start in
        let next : set rows i (g (get_or rows i no_mapping)) ≡ rows_done h (i + 1) start = ap (λ x. set rows i x) (same (get_or rows i no_mapping) ∙ ap h (done_at start i)) ∙ done_more start i ∙ ap (λ (j : ℕ). rows_done h j start) (sym (add-one i)) in
        subst (λ t. Rowed (machine w₀) p v t) next (rowed_put w₀ p low w rows k v (λ t. set t i (g (get_or t i no_mapping))) long put (length-set rows i (g (get_or rows i no_mapping)) ∙ k.long))

    pub doing_all : (w : List ℕ) (i n : ℕ) → Doing w₀ p w i → i ≡ n → n ≡ length (mapped_of (machine w₀) p) → machine w ≡ remapped h (machine w₀) p
    unfolding remapped
    doing_all w i n k e f = k.same ∙ ap (λ (j : ℕ). with_rows (machine w₀) p (rows_done h j (rows_of (machine w₀) p))) (e ∙ f)

-- a function that leaves rows as they are
pub remapped_none : (h : Mapping → Mapping) (m : Machine) (p : ℕ) → ((x : Mapping) → h x ≡ x) → (with_rows m p (rows_of m p) ≡ m) → m ≡ remapped h m p
unfolding remapped
remapped_none h m p e own = sym (ap (λ t. with_rows m p t) (done_same h e (rows_of m p) (length (mapped_of m p))) ∙ own)
