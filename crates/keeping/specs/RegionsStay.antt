-- Faults, populate and eager populate leave regions and lists of attached regions as they were.
use Rattle.std.specs.Prelude.{◌≡◌, refl, Bool, true, false, cond, List, ℕ, zero, suc, ◌+◌, ◌/◌, ltb, Option, Some, None, Result, Ok, Err, ⊤}
use Rattle.std.proofs.Common.{◌∙◌}
use Rattle.answers.specs.declared.Refusal.{Refusal}
use Rattle.model.specs.declared.Mapping.{Mapping}
use Rattle.model.specs.declared.Way.{Way}
use Rattle.model.specs.declared.Way.TheVariants.{Refuse, Already, Restore, Map, Copy, Fill}
use Rattle.model.specs.Machine.{Machine, State, with_mapped, order_of, mapped_of, region_at, row_of}
use Rattle.model.specs.MachineLaws.{Books, order_mapped, books_then, books_claim, books_re_entry, books_order}
use Rattle.model.specs.Lookup.{region_for}
use Rattle.model.specs.Answers.{Try, leaving, fine, first_of, unless, and_then}
use Rattle.model.specs.Paging.{page_start, translate, well_mapped}
use Rattle.model.specs.Backing.{backing, claim}
use Rattle.model.specs.Fault.{fault_way, way_refusals, go_way, own_frame, handle_fault, re_entry}
use Rattle.model.specs.Populate.{next_start, populate_page, visit, visits, nothing_to_do, last_address, core_populate, eager_region, eager_access, eagerly}

pub record Stays (m n : Machine) : Type 0 where
  pub regions : n.regions ≡ m.regions
  pub order : (q : ℕ) → order_of n q ≡ order_of m q

pub stays_refl : (m : Machine) → Stays m m
stays_refl m = record { regions = refl; order = λ q. refl }

pub stays_then : {a b c : Machine} → Stays a b → Stays b c → Stays a c
stays_then x y = record { regions = y.regions ∙ x.regions; order = λ q. y.order q ∙ x.order q }

-- a page table put
put_stays : (m n : Machine) → Books m n → (p : ℕ) (l : List Mapping) → Stays m (with_mapped n p l)
unfolding with_mapped
put_stays m n k p l = record { regions = k.regions; order = λ q. order_mapped n p q l ∙ books_order q k }

same_books : (m : Machine) → Books m m
same_books m = record { processes = refl; regions = refl; order = refl; mapped = refl }

own_stays : (s : State) (p t page : ℕ) (content : List ℕ) → Stays s.machine (own_frame s p t page content).machine
unfolding own_frame
own_stays s p t page content =
    let m = s.machine in
    let new = m.pool.next.0 in
    put_stays m (re_entry (claim m new 1) (row_of p t) page (backing m p t page) new) (books_then (books_claim m new 1) (books_re_entry (claim m new 1) (row_of p t) page (backing m p t page) new)) p _

way_stays : (s : State) (p t page : ℕ) (way : Way) → Stays s.machine (go_way s p t page way).machine
unfolding go_way
way_stays s p t page (Refuse r) = stays_refl s.machine
way_stays s p t page Already = stays_refl s.machine
way_stays s p t page Restore = put_stays s.machine s.machine (same_books s.machine) p _
way_stays s p t page (Map f flags) = put_stays s.machine s.machine (same_books s.machine) p _
way_stays s p t page (Copy f) = own_stays s p t page _
way_stays s p t page Fill = own_stays s p t page _

pub fault_stays : (s : State) (p t page : ℕ) (w : Bool) → Stays s.machine (handle_fault s p t page w).state.machine
unfolding handle_fault
fault_stays s p t page w = go (first_of (way_refusals s.machine p t page (fault_way s.machine p t page w)))
  where
    go : (d : Result ⊤ Refusal) → Stays s.machine (unless d s (fine (go_way s p t page (fault_way s.machine p t page w)))).state.machine
    go (Ok tt) = way_stays s p t page (fault_way s.machine p t page w)
    go (Err r) = stays_refl s.machine

pub page_stays : (s : State) (p t page : ℕ) (w : Bool) → Stays s.machine (populate_page s p t page w).state.machine
unfolding populate_page
page_stays s p t page w = go (well_mapped (translate (mapped_of s.machine p) page) w)
  where
    go : (b : Bool) → Stays s.machine (cond b (fine s) (handle_fault s p t page w)).state.machine
    go true = stays_refl s.machine
    go false = fault_stays s p t page w

then_stays : (m : Machine) (t : Try) (f : State → Try) → Stays m t.state.machine → ((s : State) → Stays s.machine (f s).state.machine) → Stays m (and_then t f).state.machine
then_stays m t f a next = go t.answer t.state a
  where
    go : (d : Result ⊤ Refusal) (s : State) → Stays m s.machine → Stays m (and_then (leaving d s) f).state.machine
    go (Ok tt) s b = stays_then b (next s)
    go (Err r) s b = b

pub visit_stays : (n : ℕ) (s : State) (p page last : ℕ) (w : Bool) → Stays s.machine (visit n s p page last w).state.machine
unfolding visit
visit_stays zero s p page last w = stays_refl s.machine
visit_stays (suc n) s p page last w = go (ltb last page) (region_for s.machine p (page_start page)) (next_start s.machine p page) (visit_stays n)
  where
    left : Bool → Option ℕ → Option ℕ → Try
    left b x y = elim b [
      | true ↦ fine s
      | false ↦ elim x [
        | Some slot ↦ and_then (populate_page s p slot page w) (λ t. visit n t p (page + 1) last w)
        | None ↦ elim y [
          | Some next ↦ visit n s p next last w
          | None ↦ fine s
        ]
      ]
    ]

    go : (b : Bool) (x y : Option ℕ) → ((s : State) (p page last : ℕ) (w : Bool) → Stays s.machine (visit n s p page last w).state.machine) → Stays s.machine (left b x y).state.machine
    go true x y more = stays_refl s.machine
    go false (Some t) y more = then_stays s.machine (populate_page s p t page w) (λ u. visit n u p (page + 1) last w) (page_stays s p t page w) (λ u. more u p (page + 1) last w)
    go false None (Some next) more = more s p next last w
    go false None None more = stays_refl s.machine

pub populate_stays : (s : State) (p a len : ℕ) (w : Bool) → Stays s.machine (core_populate s p a len w).state.machine
unfolding core_populate
populate_stays s p a len w = go (nothing_to_do a len)
  where
    go : (b : Bool) → Stays s.machine (cond b (fine s) (visit visits s p (a / 4096) (last_address a len / 4096) w)).state.machine
    go true = stays_refl s.machine
    go false = visit_stays visits s p (a / 4096) (last_address a len / 4096) w

pub eagerly_stays : (s : State) (p slot : ℕ) → Stays s.machine (eagerly s p slot).state.machine
unfolding eagerly
eagerly_stays s p slot = go (eager_region (region_at s.machine p slot))
  where
    go : (c : Bool) → Stays s.machine (cond c (core_populate s p (region_at s.machine p slot).start.0 (region_at s.machine p slot).size (eager_access (region_at s.machine p slot))) (fine s)).state.machine
    go true = populate_stays s p _ _ _
    go false = stays_refl s.machine
