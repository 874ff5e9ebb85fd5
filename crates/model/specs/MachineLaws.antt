-- Laws of the tables: what a process's list or page table reads after it was written, and what a change leaves alone.
use Rattle.std.specs.Prelude.{◌≡◌, refl, Bool, true, false, cond, List, [], ◌∷◌, ℕ, zero, suc, ◌-◌, ◌*◌, ◌≤◌, ◌<◌, length, get_or, set, leb}
use Rattle.std.proofs.Math.Path.{ap}
use Rattle.std.proofs.Common.{◌∙◌, arith, length-take, get_or-set_same}
use Rattle.std.proofs.Math.ListN.{take}
use Rattle.model.specs.declared.Process.{Process}
use Rattle.model.specs.declared.Mapping.{Mapping}
use Rattle.model.specs.declared.Backed.{Backed}
use Rattle.model.specs.declared.Backed.TheVariants.{ByEntry, ByRange, Unbacked}
use Rattle.laws.specs.Lists.{part, put_part, pad}
use Rattle.model.specs.Machine.{Machine, process_at, order_of, mapped_of, with_mapped, with_order, attached_of, mapped_count, no_process, no_mapping}
use Rattle.model.specs.Backing.{backing_at, with_backing, with_backings, claim, let_go, add_entry}
use Rattle.model.specs.Fault.{re_entry}
use Rattle.laws.specs.ListsLaws.{part_put, pad_length, take_pad}

-- ---- the page table and the list of a process, read after they were written

module _ (m : Machine) (p : ℕ) (inside : p < length m.processes) where
  pub mapped_put : (l : List Mapping) → p * 128 ≤ length m.mapped → length l ≤ 128 → mapped_of (with_mapped m p l) p ≡ l
  unfolding mapped_of with_mapped
  mapped_put l k h =
      ap (λ q. take q.mapped (part 128 p (put_part 128 p (pad 128 no_mapping l) m.mapped))) (get_or-set_same m.processes p (mapped_count (process_at m p) (length l)) no_process inside)
      ∙ ap (take (length l)) (part_put 128 p (pad 128 no_mapping l) m.mapped (pad_length 128 no_mapping l) k) ∙ take_pad 128 no_mapping l h

  pub order_put : (l : List ℕ) → p * 64 ≤ length m.order → length l ≤ 64 → order_of (with_order m p l) p ≡ l
  unfolding order_of with_order
  order_put l k h =
      ap (λ q. take q.attached (part 64 p (put_part 64 p (pad 64 0 l) m.order))) (get_or-set_same m.processes p (attached_of (process_at m p) (length l)) no_process inside)
      ∙ ap (take (length l)) (part_put 64 p (pad 64 0 l) m.order (pad_length 64 0 l) k) ∙ take_pad 64 0 l h

-- a process's count of attached regions does not change with its page table
attached_kept : (l : List Process) (p q n : ℕ) → (get_or (set l p (mapped_count (get_or l p no_process) n)) q no_process).attached ≡ (get_or l q no_process).attached
attached_kept [] p q n = refl
attached_kept (x ∷ l) zero zero n = refl
attached_kept (x ∷ l) zero (suc q) n = refl
attached_kept (x ∷ l) (suc p) zero n = refl
attached_kept (x ∷ l) (suc p) (suc q) n = attached_kept l p q n

pub order_mapped : (m : Machine) (p q : ℕ) (l : List Mapping) → order_of (with_mapped m p l) q ≡ order_of m q
unfolding order_of with_mapped
order_mapped m p q l = ap (λ (n : ℕ). take n (part 64 q m.order)) (attached_kept m.processes p q (length l))

pub mapped_length : (m : Machine) (p : ℕ) → length (mapped_of m p) ≤ (process_at m p).mapped
unfolding mapped_of
mapped_length m p = simp length-take (omega arith)

-- ---- what changes of backings and entries leave alone

-- processes, regions, list order and page tables
pub record Books (m n : Machine) : Type 0 where
  pub processes : n.processes ≡ m.processes
  pub regions : n.regions ≡ m.regions
  pub order : n.order ≡ m.order
  pub mapped : n.mapped ≡ m.mapped

pub books_then : {a b c : Machine} → Books a b → Books b c → Books a c
books_then x y = record { processes = y.processes ∙ x.processes; regions = y.regions ∙ x.regions; order = y.order ∙ x.order; mapped = y.mapped ∙ x.mapped }

pub books_claim : (m : Machine) (f n : ℕ) → Books m (claim m f n)
unfolding claim with_backings
books_claim m f n = record { processes = refl; regions = refl; order = refl; mapped = refl }

pub books_let_go : (m : Machine) (f : ℕ) → Books m (let_go m f)
unfolding let_go with_backings
books_let_go m f = go (leb (backing_at m f).holders 1)
  where
    go : (b : Bool) → Books m (cond b (with_backing m f 0 0) (with_backing m f (backing_at m f).len ((backing_at m f).holders - 1)))
    go true = record { processes = refl; regions = refl; order = refl; mapped = refl }
    go false = record { processes = refl; regions = refl; order = refl; mapped = refl }

pub books_add_entry : (m : Machine) (row page f : ℕ) → Books m (add_entry m row page f)
unfolding add_entry
books_add_entry m row page f = record { processes = refl; regions = refl; order = refl; mapped = refl }

pub books_re_entry : (m : Machine) (row page : ℕ) (b : Backed) (new : ℕ) → Books m (re_entry m row page b new)
unfolding re_entry
books_re_entry m row page (ByEntry i f n) new = let k = books_let_go m f.0 in record { processes = k.processes; regions = k.regions; order = k.order; mapped = k.mapped }
books_re_entry m row page (ByRange f n) new = books_add_entry m row page new
books_re_entry m row page Unbacked new = books_add_entry m row page new

pub books_order : {m n : Machine} (p : ℕ) → Books m n → order_of n p ≡ order_of m p
unfolding order_of
books_order p k = λ i. take (get_or (k.processes i) p no_process).attached (part 64 p (k.order i))

pub books_mapped : {m n : Machine} (p : ℕ) → Books m n → mapped_of n p ≡ mapped_of m p
unfolding mapped_of
books_mapped p k = λ i. take (get_or (k.processes i) p no_process).mapped (part 128 p (k.mapped i))
