-- One page of populate: where it does not refuse, the page is mapped afterwards, and regions and list are as before.
use Rattle.std.specs.Prelude.{◌≡◌, Bool, ◌&&◌, not, cond, ℕ, suc, ◌+◌, ◌*◌, ◌≤◌, ◌<◌, Option, Some, None, Result, Ok, Err, ⊤}
use Rattle.std.proofs.Math.Path.{refl}
use Rattle.std.proofs.Common.{◌∙◌, true≢false, length-set, leb-false}
use Rattle.std.proofs.Math.Bool.{true, false}
use mathlib.Core.List.{List, [], ◌∷◌}
use native.Mathlib.Omega.{arith}
use Rattle.std.proofs.Math.ListN.{length}
use Rattle.std.proofs.Math.Dec.{eqb}
use Rattle.laws.specs.ResultLaws.{err_not_ok}
use Rattle.address.specs.declared.PhysFrame.{PhysFrame}
use Rattle.address.specs.declared.flags.PageTableFlags.{PageTableFlags}
use Rattle.address.specs.Flags.{read_only}
use Rattle.answers.specs.declared.Refusal.{Refusal}
use Rattle.answers.specs.declared.Refusal.TheVariants.{NotAccessible, NotWritable}
use Rattle.model.specs.declared.Region.{Region}
use Rattle.model.specs.declared.Mapping.{Mapping}
use Rattle.model.specs.declared.Backed.{Backed}
use Rattle.model.specs.declared.Backed.TheVariants.{ByEntry, ByRange, Unbacked}
use Rattle.model.specs.declared.Way.{Way}
use Rattle.model.specs.declared.Way.TheVariants.{Refuse, Already, Restore, Map, Copy, Fill}
use Rattle.laws.specs.ListsLaws.{pad_length, put_part_length}
use Rattle.model.specs.Machine.{Machine, State, with_mapped, mapped_of, order_of, process_at, region_at, row_of}
use Rattle.model.specs.Answers.{fine, first_of, unless}
use Rattle.model.specs.Lookup.{is_shared}
use Rattle.model.specs.Paging.{is_writable, is_user, translate, map_page, unmap_page, remap_where, well_mapped}
use Rattle.model.specs.Backing.{backing}
use Rattle.model.specs.Fault.{fault_way, private_way, shared_way, way_refusals, go_way, own_frame, handle_fault, no_room, is_mapped}
use Rattle.model.specs.Populate.{populate_page}
use Rattle.model.specs.MachineLaws.{mapped_put, order_mapped, mapped_length, Books, books_then, books_claim, books_re_entry, books_order}
use Rattle.model.specs.MappedBelowLaws.{below, below_next, below_here, below_map, length_map, below_unmap, length_unmap, length_unmapped, below_remap, length_remap}

-- the process's rows are there, and its page table fits them
pub record Fits (m : Machine) (p : ℕ) : Type 0 where
  pub inside : p < length m.processes
  pub room : p * 128 + 128 ≤ length m.mapped
  pub few : length (mapped_of m p) ≤ 128

-- what a page's visit leaves
pub record Went (m n : Machine) (p page : ℕ) : Type 0 where
  pub regions : n.regions ≡ m.regions
  pub order : order_of n p ≡ order_of m p
  pub fits : Fits n p
  pub more : suc (below page (mapped_of m p)) ≤ below (suc page) (mapped_of n p)

-- the length of a table after a process's part was replaced
module _ (m : Machine) (p page : ℕ) (f : Fits m p) where
  -- a page table written over books that are as before
  wrote : (n : Machine) → Books m n → (l : List Mapping) → length l ≤ 128 → suc (below page (mapped_of m p)) ≤ below (suc page) l → Went m (with_mapped n p l) p page
  unfolding with_mapped
  wrote n k l few more =
      record { regions = regions; order = order_mapped n p p l ∙ books_order p k; fits = record { inside = inside; room = room; few = rw reads few }; more = rw reads more }
    where
      inside_n : p < length n.processes
      inside_n = rw k.processes f.inside

      room_n : p * 128 + 128 ≤ length n.mapped
      room_n = rw k.mapped f.room

      reads : mapped_of (with_mapped n p l) p ≡ l
      reads = mapped_put n p inside_n l (omega (arith, room_n)) few

      regions : (with_mapped n p l).regions ≡ m.regions
      regions = k.regions

      inside : p < length (with_mapped n p l).processes
      inside = rw length-set inside_n

      room : p * 128 + 128 ≤ length (with_mapped n p l).mapped
      room = rw (put_part_length 128 p _ n.mapped (pad_length 128 _ l) room_n) room_n

  same_books : Books m m
  same_books = record { processes = refl; regions = refl; order = refl; mapped = refl }

  stayed : (x : Mapping) → translate (mapped_of m p) page ≡ Some x → Went m m p page
  stayed x e = record { regions = refl; order = refl; fits = f; more = below_here page (mapped_of m p) x e }

  room_left : no_room m p ≡ false → length (mapped_of m p) < 128
  room_left e = let h = leb-false 128 (process_at m p).mapped e in let k = mapped_length m p in omega arith

  mapped_new : (n : Machine) → Books m n → (x : Mapping) → x.page.0 ≡ page → no_room m p ≡ false → Went m (with_mapped n p (map_page (mapped_of m p) x)) p page
  mapped_new n k x at e =
      let h = room_left e in
      wrote n k (map_page (mapped_of m p) x) (rw length_map h) (rw (below_map (suc page) (mapped_of m p) x (omega arith)) (grown (below_next page (mapped_of m p))))
    where
      grown : {a b : ℕ} → a ≤ b → suc a ≤ suc b
      grown h = omega arith

  mapped_anew : (n : Machine) → Books m n → (x : Mapping) → x.page.0 ≡ page → length (unmap_page (mapped_of m p) page) < 128 → Went m (with_mapped n p (map_page (unmap_page (mapped_of m p) page) x)) p page
  mapped_anew n k x at h =
      wrote n k (map_page (unmap_page (mapped_of m p) page) x) (rw length_map h) (rw (below_map (suc page) (unmap_page (mapped_of m p) page) x (omega arith)) (grown (below_next page (unmap_page (mapped_of m p) page)) (below_unmap page (mapped_of m p))))
    where
      grown : {a b c : ℕ} → a ≤ b → a ≡ c → suc c ≤ suc b
      grown h e = omega arith

  remapped : (g : Mapping → Bool) (v : Mapping → ℕ) (x : Mapping) → translate (mapped_of m p) page ≡ Some x → Went m (with_mapped m p (remap_where g v (mapped_of m p))) p page
  remapped g v x e = wrote m same_books (remap_where g v (mapped_of m p)) (rw length_remap f.few) (rw below_remap (below_here page (mapped_of m p) x e))

-- the ways that leave a page's mapping where it is are those of a mapped page
stays : Way → Bool
stays (Refuse r) = false
stays Already = true
stays Restore = true
stays (Map f flags) = false
stays (Copy f) = false
stays Fill = false

backed_moves : (f : PhysFrame) (full less : PageTableFlags) (v one w : Bool) → stays (cond v (cond one (Map f full) (cond w (Copy f) (Map f less))) (cond w (Refuse NotWritable) (Map f full))) ≡ false
unfolding stays
backed_moves f full less true true w = refl
backed_moves f full less true false true = refl
backed_moves f full less true false false = refl
backed_moves f full less false one true = refl
backed_moves f full less false one false = refl

bare_moves : (v w : Bool) → stays (cond v Fill (cond w (Refuse NotWritable) Fill)) ≡ false
unfolding stays
bare_moves true w = refl
bare_moves false true = refl
bare_moves false false = refl

user_moves : (u : Bool) (x : Way) → stays x ≡ false → stays (cond u x (Refuse NotAccessible)) ≡ false
unfolding stays
user_moves true x e = e
user_moves false x e = refl

private_moves : (r : Region) (b : Backed) (w : Bool) → stays (private_way r None b w) ≡ false
unfolding stays private_way
private_moves r (ByEntry i f n) w = user_moves (is_user r.flags.0) _ (backed_moves f r.flags (record { 0 = read_only r.flags.0 }) (is_writable r.flags.0) (eqb n 1) w)
private_moves r (ByRange f n) w = user_moves (is_user r.flags.0) _ (backed_moves f r.flags (record { 0 = read_only r.flags.0 }) (is_writable r.flags.0) (eqb n 1) w)
private_moves r Unbacked w = user_moves (is_user r.flags.0) _ (bare_moves (is_writable r.flags.0) w)

shared_moves : (b : Backed) → stays (shared_way None b) ≡ false
unfolding stays shared_way
shared_moves (ByEntry i f n) = refl
shared_moves (ByRange f n) = refl
shared_moves Unbacked = refl

unmapped_moves : (m : Machine) (p slot page : ℕ) (w : Bool) → translate (mapped_of m p) page ≡ None → stays (fault_way m p slot page w) ≡ false
unfolding fault_way
unmapped_moves m p slot page w e = rw e (go (is_shared (region_at m p slot)))
  where
    go : (b : Bool) → stays (cond b (shared_way None (backing m p slot page)) (private_way (region_at m p slot) None (backing m p slot page) w)) ≡ false
    go true = shared_moves (backing m p slot page)
    go false = private_moves (region_at m p slot) (backing m p slot page) w

-- ---- a page that does not refuse

pub first_yes : (b : Bool) (r : Refusal) (l : List (Bool × Refusal)) → first_of ((b, r) ∷ l) ≡ Ok tt → (b ≡ false) × (first_of l ≡ Ok tt)
unfolding first_of
first_yes true r l e = absurd (err_not_ok e)
first_yes false r l e = (refl, e)

module _ (s : State) (p slot page : ℕ) (w : Bool) (f : Fits s.machine p) where
  abbrev m : Machine
  m = s.machine

  owned : (content : List ℕ) → length (unmap_page (mapped_of m p) page) < 128 → Went m (own_frame s p slot page content).machine p page
  unfolding own_frame
  owned content h = mapped_anew m p page f _ (books_then (books_claim m m.pool.next.0 1) (books_re_entry _ (row_of p slot) page (backing m p slot page) m.pool.next.0)) _ refl h

  -- the page is mapped, or its way moves it
  went_way : (way : Way) → (translate (mapped_of m p) page ≡ None → stays way ≡ false) → first_of (way_refusals m p slot page way) ≡ Ok tt → Went m (go_way s p slot page way).machine p page
  unfolding way_refusals go_way stays
  went_way (Refuse r) u e = absurd (true≢false (first_yes true r [] e).0)
  went_way Already u e = go (translate (mapped_of m p) page) refl
    where
      go : (t : Option Mapping) → translate (mapped_of m p) page ≡ t → Went m m p page
      go (Some x) q = stayed m p page f x q
      go None q = absurd (true≢false (u q))
  went_way Restore u e = go (translate (mapped_of m p) page) refl
    where
      go : (t : Option Mapping) → translate (mapped_of m p) page ≡ t → Went m (with_mapped m p (remap_where (λ x. eqb x.page.0 page) (λ x. (region_at m p slot).flags.0) (mapped_of m p))) p page
      go (Some x) q = remapped m p page f _ _ x q
      go None q = absurd (true≢false (u q))
  went_way (Map g flags) u e = mapped_new m p page f m (same_books m p page f) _ refl (first_yes (no_room m p) _ [] e).0
  went_way (Copy g) u e = owned _ (go (translate (mapped_of m p) page) refl (first_yes _ _ _ (first_yes _ _ _ e).1).0)
    where
      go : (t : Option Mapping) → translate (mapped_of m p) page ≡ t → (not (is_mapped t) && no_room m p) ≡ false → length (unmap_page (mapped_of m p) page) < 128
      go (Some x) q k = let h = length_unmapped page (mapped_of m p) x q in let y = f.few in omega arith
      go None q k = let h = room_left m p page f k in let y = length_unmap page (mapped_of m p) in omega arith
  went_way Fill u e =
      let k = (first_yes _ _ _ (first_yes _ _ _ (first_yes _ _ _ e).1).1).0 in
      let h = room_left m p page f k in
      let y = length_unmap page (mapped_of m p) in
      owned _ (omega arith)

  went_fault : (handle_fault s p slot page w).answer ≡ Ok tt → Went m (handle_fault s p slot page w).state.machine p page
  unfolding handle_fault
  went_fault e = go (first_of (way_refusals m p slot page (fault_way m p slot page w))) refl e
    where
      go : (d : Result ⊤ Refusal) → first_of (way_refusals m p slot page (fault_way m p slot page w)) ≡ d → (unless d s (fine (go_way s p slot page (fault_way m p slot page w)))).answer ≡ Ok tt → Went m (unless d s (fine (go_way s p slot page (fault_way m p slot page w)))).state.machine p page
      go (Ok tt) q h = went_way (fault_way m p slot page w) (unmapped_moves m p slot page w) q
      go (Err r) q h = absurd (err_not_ok h)

  -- where populate passes a page of a region, it is mapped afterwards
  pub went_page : (populate_page s p slot page w).answer ≡ Ok tt → Went m (populate_page s p slot page w).state.machine p page
  unfolding populate_page
  went_page e = go (translate (mapped_of m p) page) refl e
    where
      over : (b : Bool) (x : Mapping) → translate (mapped_of m p) page ≡ Some x → (cond b (fine s) (handle_fault s p slot page w)).answer ≡ Ok tt → Went m (cond b (fine s) (handle_fault s p slot page w)).state.machine p page
      over true x q h = stayed m p page f x q
      over false x q h = went_fault h

      go : (t : Option Mapping) → translate (mapped_of m p) page ≡ t → (cond (well_mapped t w) (fine s) (handle_fault s p slot page w)).answer ≡ Ok tt → Went m (cond (well_mapped t w) (fine s) (handle_fault s p slot page w)).state.machine p page
      go (Some x) q h = over (well_mapped (Some x) w) x q h
      go None q h = went_fault h
