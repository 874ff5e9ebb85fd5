-- A region split: its high pages unmapped, the region cut, the high part listed and unpinned, its pages mapped again.
use Rattle.std.specs.Prelude.{◌≡◌, ◌⊎◌, ◌≢◌, Bool, ◌&&◌, ℕ, zero, suc, ◌+◌, ◌/◌, ◌%◌, ◌≤◌, ◌<◌, length, get_or, take}
use Rattle.std.proofs.Math.Path.{refl, ap, subst}
use Rattle.std.proofs.Common.{sym, ◌∙◌, inl, inr, get_or-set_same, set-set}
use Rattle.std.proofs.Math.Bool.{true, false, not}
use Rattle.std.proofs.lemmas.Bool.{false≢true}
use mathlib.Core.List.{List, [], ◌∷◌}
use native.Mathlib.Omega.{arith}
use Rattle.std.proofs.Math.ListN.{set, length-take}
use Rattle.std.proofs.Math.Dec.{leb}
use borrow.Author.Tests.{leb-true, leb-false}
use Rattle.model.specs.declared.Process.{Process}
use Rattle.model.specs.declared.Entry.{Entry}
use Rattle.model.specs.declared.Region.{Region}
use Rattle.model.specs.declared.Mapping.{Mapping}
use Rattle.laws.specs.Lists.{part, put_part, pad, keep}
use Rattle.model.specs.Machine.{Machine, with_region, with_mapped, with_order, process_at, region_at, row_of, order_of, mapped_of, attached_of, mapped_count, no_process, no_region, no_mapping}
use Rattle.model.specs.Lookup.{contains, free_slot, row_found, is_found}
use Rattle.model.specs.Paging.{maps_in, page_start}
use Rattle.model.specs.Backing.{backing_at}
use Rattle.model.specs.Carve.{low_part, high_part, give_entries, split_at}
use Rattle.model.specs.Pins.{with_pins}
use Rattle.model.specs.Sound.{Used, Flagged}
use Rattle.model.specs.MachineLaws.{order_mapped}
use Rattle.laws.specs.ListsLaws.{pad_length, put_part_again, part_length, put_same, pad_take}
use Rattle.laws.specs.In.{In, Once}
use Rattle.laws.specs.InListsLaws.{in_keep, keep_in}
use Rattle.keeping.specs.Owing.{row_at, entry_at, Backs, Placed, Owing}
use Rattle.keeping.specs.OwingLaws.{open_low, listed_open, listed_row, home_one, slot_pinned}
use Rattle.keeping.specs.MappedKept.{mapped_kept}
use Rattle.keeping.specs.PagesKept.{few_pages, pages_kept, pages_read}
use Rattle.keeping.specs.OrderKept.{order_reads, order_kept, mapped_order}
use Rattle.keeping.specs.PinKept.{pins_kept}
use Rattle.keeping.specs.AddedKept.{free_slot_found}
use Rattle.keeping.specs.CutKept.{Cuts, cut_kept, new_high, entry_is, in_high, given, Gives, gives, gone, stays}

-- ---- a page table put back as it was

-- a list, between two counts of mapped pages
process_back : (l : List Process) (p a c n : ℕ) → n ≡ (get_or l p no_process).mapped
    → set (set (set l p (mapped_count (get_or l p no_process) a)) p (attached_of (get_or (set l p (mapped_count (get_or l p no_process) a)) p no_process) c)) p
    (mapped_count
    (get_or (set (set l p (mapped_count (get_or l p no_process) a)) p
    (attached_of (get_or (set l p (mapped_count (get_or l p no_process) a)) p no_process) c)) p no_process) n) ≡ set l p (attached_of (get_or l p no_process) c)
process_back [] p a c n e = refl
process_back (x ∷ l) zero a c n e = ap (λ (k : ℕ). record { opened = x.opened; start = x.start; size = x.size; attached = c; mapped = k } ∷ l) e
process_back (x ∷ l) (suc p) a c n e = ap (λ t. x ∷ t) (process_back l p a c n e)

module _ (d : ℕ → ℕ) (m : Machine) (o : Owing d m) (p : ℕ) (low : p < 8) where
  table_rows : length (part 128 p m.mapped) ≡ 128
  table_rows = let a = o.sizes.mapped in part_length m.mapped 128 p (omega arith)

  count_is : length (mapped_of m p) ≡ (process_at m p).mapped
  unfolding mapped_of
  count_is = let a = table_rows in let b = (o.arenas p low).mapped in length-take (process_at m p).mapped (part 128 p m.mapped) ∙ omega arith

  table_back : (rest : List Mapping) → put_part 128 p (pad 128 no_mapping (mapped_of m p)) (put_part 128 p (pad 128 no_mapping rest) m.mapped) ≡ m.mapped
  unfolding mapped_of
  table_back rest =
      let a = o.sizes.mapped in
      let twice = put_part_again 128 p (pad 128 no_mapping rest) (pad 128 no_mapping (mapped_of m p)) m.mapped (pad_length 128 no_mapping rest) (omega arith) in
      let long = ap (λ (k : ℕ). pad k no_mapping (take (process_at m p).mapped (part 128 p m.mapped))) (sym table_rows) in
      let filled = pad_take no_mapping (part 128 p m.mapped) (process_at m p).mapped (o.paged p low).free in
      twice ∙ ap (λ t. put_part 128 p t m.mapped) (long ∙ filled) ∙ put_same 128 p m.mapped

-- ---- the split

-- a region that can be split at b
pub record Splits (m : Machine) (p s b : ℕ) : Type 0 where
  pub listed : In s (order_of m p)
  pub unranged : (region_at m p s).ranged ≢ 1
  pub unshared : (region_at m p s).kind ≢ 3
  pub above : (region_at m p s).start.0 < b
  pub below : b < (region_at m p s).start.0 + (region_at m p s).size
  pub page : b % 4096 ≡ 0
  pub slot : not (is_found (free_slot m p)) ≡ false
  pub unpinned : (region_at m p s).pins ≡ 0

module _ (d : ℕ → ℕ) (m : Machine) (o : Owing d m) (p s b : ℕ) (k : Splits m p s b) (list : List ℕ) (once : Once list) (few : length list ≤ 64)
    (has : (j : ℕ) → In j (order_of m p) → In j list) (has_new : In (row_found (free_slot m p)) list)
    (only : (j : ℕ) → In j list → (j ≡ row_found (free_slot m p)) ⊎ In j (order_of m p)) where
  abbrev t : ℕ
  t = row_found (free_slot m p)

  abbrev r : Region
  r = region_at m p s

  abbrev row : ℕ
  row = row_of p t

  opened : (process_at m p).opened ≡ 1
  opened = listed_open d m o p s k.listed

  low : p < 8
  low = open_low m o p opened

  is_free : (t < 64) × ((region_at m p t).kind ≡ 0)
  is_free = free_slot_found d m o p low k.slot

  -- the high pages unmapped
  abbrev high_page : Mapping → Bool
  high_page x = maps_in r x && leb (b / 4096) x.page.0

  abbrev rest : List Mapping
  rest = keep (λ x. not (high_page x)) (mapped_of m p)

  abbrev bare : Machine
  bare = with_mapped m p rest

  bare_owing : Owing d bare
  bare_owing = pages_kept d m o p opened (λ x. not (high_page x))

  bare_reads : mapped_of bare p ≡ rest
  bare_reads = pages_read d m o p low (λ x. not (high_page x))

  cuts : Cuts bare p s b t
  unfolding with_mapped
  cuts = record {
    listed = subst (λ l. In s l) (sym (order_mapped m p p rest)) k.listed;
    unranged = k.unranged;
    unshared = k.unshared;
    above = k.above;
    below = k.below;
    page = k.page;
    small = is_free.0;
    free = is_free.1;
    unmapped = λ x i e. stays x (in_keep (λ x. not (high_page x)) x (mapped_of m p) (subst (λ l. In x l) bare_reads i)).1 e;
  }
    where
      stays : (x : Mapping) → not (high_page x) ≡ true → contains r (page_start x.page.0) ≡ true → x.page.0 < b / 4096
      stays x e f =
          leb-false (b / 4096) x.page.0 (go (leb (b / 4096) x.page.0) (subst (λ (c : Bool). not (c && leb (b / 4096) x.page.0) ≡ true) f e))
        where
          go : (c : Bool) → not (true && c) ≡ true → c ≡ false
          go true q = absurd (false≢true q)
          go false q = refl

  abbrev halved : Machine
  halved = give_entries (with_region (with_region bare p s (low_part r b)) p t (with_pins (high_part r b) 1)) (row_of p s) b row

  halved_owing : Owing d halved
  unfolding with_mapped
  halved_owing = cut_kept d bare bare_owing p s b t cuts

  halved_high : row_at halved row ≡ with_pins (high_part r b) 1
  unfolding with_mapped
  halved_high = new_high d bare bare_owing p s b t cuts

  halved_order : order_of halved p ≡ order_of m p
  unfolding give_entries order_of
  halved_order = order_mapped m p p rest

  halved_opened : (process_at halved p).opened ≡ 1
  halved_opened = listed_open d halved halved_owing p s (subst (λ l. In s l) (sym halved_order) k.listed)

  high_used : Used (region_at halved p t)
  unfolding high_part
  high_used z = (o.listed p s low k.listed).1 (ap (λ (x : Region). x.kind) (sym halved_high) ∙ z)

  -- the high part listed
  list_used : (j : ℕ) → In j list → (j < 64) × Used (region_at halved p j)
  list_used j i = go (only j i)
    where
      go : (j ≡ t) ⊎ In j (order_of m p) → (j < 64) × Used (region_at halved p j)
      go (inl e) = (subst (λ (x : ℕ). x < 64) (sym e) is_free.0, subst (λ (x : ℕ). Used (region_at halved p x)) (sym e) high_used)
      go (inr q) = halved_owing.listed p j low (subst (λ l. In j l) (sym halved_order) q)

  list_pinned : (j : ℕ) → j < 64 → Used (region_at halved p j) → In j list ⊎ (1 ≤ (region_at halved p j).pins)
  list_pinned j h u = go (slot_pinned halved halved_owing p j h u)
    where
      go : In j (order_of halved p) ⊎ (1 ≤ (region_at halved p j).pins) → In j list ⊎ (1 ≤ (region_at halved p j).pins)
      go (inl i) = inl (has j (subst (λ l. In j l) halved_order i))
      go (inr i) = inr i

  abbrev known : Machine
  known = with_order halved p list

  known_owing : Owing d known
  known_owing =
      order_kept d halved halved_owing p halved_opened list few once list_used list_pinned
      (λ x i q. has q.slot (subst (λ l. In q.slot l) halved_order q.listed))

  known_order : order_of known p ≡ list
  known_order = order_reads d halved halved_owing p halved_opened list few

  known_high : region_at known p t ≡ with_pins (high_part r b) 1
  unfolding with_order
  known_high = halved_high

  -- its pin taken off
  abbrev loose : Machine
  loose = with_region known p t (with_pins (region_at known p t) 0)

  loose_owing : Owing d loose
  unfolding with_order
  loose_owing =
      pins_kept d known known_owing p t 0 high_used (omega arith) (inl (listed_row known p t is_free.0 (subst (λ l. In t l) (sym known_order) has_new)))

  loose_order : order_of loose p ≡ list
  unfolding order_of
  loose_order = known_order

  in_table : row < length known.regions
  in_table = let a = known_owing.sizes.regions in let l = low in let c = is_free.0 in omega arith

  loose_high : region_at loose p t ≡ with_pins (region_at known p t) 0
  loose_high = get_or-set_same known.regions row (with_pins (region_at known p t) 0) no_region in_table

  loose_reads : mapped_of loose p ≡ rest
  unfolding mapped_of give_entries
  loose_reads = mapped_order d halved halved_owing p halved_opened list p ∙ bare_reads

  loose_opened : (process_at loose p).opened ≡ 1
  loose_opened = listed_open d loose loose_owing p t (subst (λ l. In t l) (sym loose_order) has_new)

  -- its pages mapped again
  loose_entry : (i : ℕ) → entry_at loose i ≡ given (row_of p s) b row (entry_at m i)
  unfolding with_order with_mapped
  loose_entry i = entry_is d bare bare_owing p s b t cuts i

  loose_backing : (f : ℕ) → backing_at loose f ≡ backing_at m f
  unfolding with_order give_entries with_mapped
  loose_backing f = refl

  high_inside : (pg : ℕ) → contains r (page_start pg) ≡ true → b / 4096 ≤ pg → contains (with_pins (high_part r b) 0) (page_start pg) ≡ true
  unfolding with_mapped high_part
  high_inside pg e h = in_high d bare bare_owing p s b t cuts pg e h

  high_flags : (fl h : ℕ) → Flagged r fl h → Flagged (with_pins (high_part r b) 0) fl h
  unfolding high_part
  high_flags fl h g = record { private = g.private; lone = g.lone; shared = g.shared }

  given_high : (i : ℕ) → (entry_at m i).owner ≡ row_of p s + 1 → b / 4096 ≤ (entry_at m i).page.0
      → entry_at loose i ≡ record { owner = row + 1; page = (entry_at m i).page; frame = (entry_at m i).frame }
  given_high i e h = loose_entry i ∙ go (gives (row_of p s) b row (entry_at m i))
    where
      go : Gives (row_of p s) b row (entry_at m i)
          → given (row_of p s) b row (entry_at m i) ≡ record { owner = row + 1; page = (entry_at m i).page; frame = (entry_at m i).frame }
      go (gone a c q) = q
      go (stays a q) = let less = a e in absurd (omega arith)

  high_placed : (x : Mapping) → (q : Placed m p x) → contains r (page_start x.page.0) ≡ true → b / 4096 ≤ x.page.0 → Placed loose p x
  high_placed x q e h = record {
    slot = t;
    listed = subst (λ l. In t l) (sym loose_order) has_new;
    inside = subst (λ (y : Region). contains y (page_start x.page.0) ≡ true) (sym at) inside;
    base = q.base;
    backed = backed (subst (λ (j : ℕ). Backs m (row_of p j) x.page.0 q.base x.frame.0) home q.backed);
    flagged = subst (λ (y : Region). Flagged y x.flags.0 (backing_at loose q.base).holders) (sym at)
        (flagged (subst (λ (j : ℕ). Flagged (region_at m p j) x.flags.0 (backing_at m q.base).holders) home q.flagged));
  }
    where
      home : q.slot ≡ s
      home = home_one m o p low (page_start x.page.0) q.slot s q.listed k.listed q.inside e

      at : region_at loose p t ≡ with_pins (high_part r b) 0
      at = loose_high ∙ ap (λ (y : Region). with_pins y 0) known_high

      inside : contains (with_pins (high_part r b) 0) (page_start x.page.0) ≡ true
      inside = high_inside x.page.0 e h

      flagged : Flagged r x.flags.0 (backing_at m q.base).holders
          → Flagged (with_pins (high_part r b) 0) x.flags.0 (backing_at loose q.base).holders
      flagged f = high_flags x.flags.0 _ (subst (λ (c : ℕ). Flagged r x.flags.0 c) (ap (λ y. y.holders) (sym (loose_backing q.base))) f)

      backed : Backs m (row_of p s) x.page.0 q.base x.frame.0 → Backs loose row x.page.0 q.base x.frame.0
      backed (inl y) =
          let g = given_high y.at y.owner (subst (λ (j : ℕ). b / 4096 ≤ j) (sym y.page) h) in
          inl (record {
            at = y.at;
            owner = ap (λ (z : Entry). z.owner) g;
            page = ap (λ (z : Entry). z.page.0) g ∙ y.page;
            start = ap (λ (z : Entry). z.frame.0) g ∙ y.start;
            frame = y.frame;
          })
      backed (inr y) = absurd (k.unranged y.ranged)

  high_unpinned : with_pins (high_part r b) 0 ≡ high_part r b
  unfolding high_part
  high_unpinned = ap (λ (n : ℕ). with_pins (high_part r b) n) (sym k.unpinned)

  each : (x : Mapping) → In x (mapped_of m p) → Placed loose p x
  each x i = go (maps_in r x) refl (leb (b / 4096) x.page.0) refl
    where
      kept : not (high_page x) ≡ true → Placed loose p x
      kept e = loose_owing.mapped p low x (subst (λ l. In x l) (sym loose_reads) (keep_in (λ x. not (high_page x)) x (mapped_of m p) i e))

      go : (a : Bool) → maps_in r x ≡ a → (c : Bool) → leb (b / 4096) x.page.0 ≡ c → Placed loose p x
      go true e true f = high_placed x (o.mapped p low x i) e (leb-true (b / 4096) x.page.0 f)
      go true e false f = kept (rw (e, f) refl)
      go false e c f = kept (rw e refl)

  shape : with_mapped loose p (mapped_of m p) ≡ with_order (split_at m p s b) p list
  unfolding split_at give_entries with_order with_mapped free_slot
  shape = λ i. record {
    processes = process_back m.processes p (length rest) (length list) (length (mapped_of m p)) (count_is d m o p low) i;
    regions = regions i;
    order = put_part 64 p (pad 64 0 list) m.order;
    mapped = table_back d m o p low rest i;
    entries = loose.entries;
    backings = m.backings;
    pool = m.pool;
    files = m.files;
    frame_count = m.frame_count;
    file_count = m.file_count;
  }
    where
      cut_rows : List Region
      cut_rows = set m.regions (row_of p s) (low_part r b)

      regions : loose.regions ≡ set cut_rows row (high_part r b)
      regions =
          ap (λ (y : Region). set (set cut_rows row (with_pins (high_part r b) 1)) row (with_pins y 0)) known_high
          ∙ set-set cut_rows row (with_pins (high_part r b) 1) (with_pins (high_part r b) 0) ∙ ap (λ (y : Region). set cut_rows row y) high_unpinned

  -- the region split, with a list that has its high part too
  pub split_kept : Owing d (with_order (split_at m p s b) p list)
  split_kept = subst (Owing d) shape (mapped_kept d loose loose_owing p loose_opened (mapped_of m p) (o.paged p low).rising (few_pages d m o p low) each)
