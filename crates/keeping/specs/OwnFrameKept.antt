-- A frame of its own for a page: the page unmapped, a frame claimed, its entry put, the page mapped again.
use Rattle.std.specs.Prelude.{◌≡◌, ◌⊎◌, ◌≢◌, true, false, ◌&&◌, List, ℕ, ◌+◌, ◌*◌, ◌≤◌, ◌<◌, length, set, eqb}
use Rattle.std.proofs.Math.Path.{refl, ap, sym, subst}
use Rattle.std.proofs.Common.{◌∙◌, arith, set-set}
use Rattle.std.proofs.Math.Logic.{inl, inr}
use Rattle.std.proofs.Math.Bool.{not}
use Rattle.std.proofs.Math.ListN.{get_or, length-set}
use Rattle.std.proofs.Math.Seq.{get_or-set_same, get_or-set_other}
use Rattle.address.specs.declared.PhysFrame.{PhysFrame}
use Rattle.model.specs.declared.Entry.{Entry}
use Rattle.model.specs.declared.Backing.{Backing}
use Rattle.model.specs.declared.Region.{Region}
use Rattle.model.specs.declared.Mapping.{Mapping}
use Rattle.model.specs.declared.Backed.{Backed}
use Rattle.model.specs.declared.Backed.TheVariants.{ByEntry, ByRange, Unbacked}
use Rattle.model.specs.Machine.{Machine, with_entries, with_mapped, process_at, region_at, row_of, order_of, mapped_of, no_entry, no_region, no_backing, no_process}
use Rattle.model.specs.Lookup.{contains, free_entry, row_found, is_found}
use Rattle.model.specs.Paging.{page_start, mapping, map_page, unmap_page}
use Rattle.model.specs.Backing.{backing_at, backing, with_backings, claim, let_go, add_entry}
use Rattle.model.specs.Fault.{re_entry, by_entry}
use Rattle.model.specs.Sound.{Used, Flagged, Hold}
use Rattle.model.specs.MachineLaws.{order_mapped, Books, books_then, books_claim, books_add_entry, books_order, books_mapped}
use Rattle.model.specs.MappedBelowLaws.{length_map}
use Rattle.laws.specs.SetLaws.{each_row}
use Rattle.laws.specs.In.{In}
use Rattle.keeping.specs.Owing.{row_at, entry_at, Placed, Owing, Holds}
use Rattle.model.specs.Holders.{entry_hold}
use Rattle.keeping.specs.OwingLaws.{open_low, taken_there, listed_open}
use Rattle.keeping.specs.BacksLaws.{entry_of_backing, none_of}
use Rattle.keeping.specs.MappedKept.{mapped_kept, mapped_again}
use Rattle.keeping.specs.MapOrderLaws.{in_mapped, rising_map, in_unmapped, rising_unmap}
use Rattle.keeping.specs.PagesKept.{pages_kept, pages_read}
use Rattle.keeping.specs.BackingsKept.{more, FreeRun, held_used, claim_kept, let_go_kept}
use Rattle.keeping.specs.EntriesKept.{EntryNew, entry_on, entry_kept, free_row, free_kept}
use Rattle.keeping.specs.LetGoLaws.{less_held, let_go_is}

module _ (d : ℕ → ℕ) (m : Machine) (o : Owing d m) (p t pg : ℕ) (listed : In t (order_of m p)) (unshared : (region_at m p t).kind ≢ 3)
    (contained : contains (region_at m p t) (page_start pg) ≡ true) (new : ℕ) (run : FreeRun m new 1) where
  abbrev row : ℕ
  row = row_of p t

  opened : (process_at m p).opened ≡ 1
  opened = listed_open d m o p t listed

  low : p < 8
  low = open_low m o p opened

  is : (t < 64) × Used (row_at m row)
  is = o.listed p t low listed

  -- the page unmapped
  abbrev rest : List Mapping
  rest = unmap_page (mapped_of m p) pg

  abbrev bare : Machine
  bare = with_mapped m p rest

  bare_owing : Owing d bare
  unfolding unmap_page
  bare_owing = pages_kept d m o p opened (λ x. not (eqb x.page.0 pg))

  bare_reads : mapped_of bare p ≡ rest
  unfolding unmap_page
  bare_reads = pages_read d m o p low (λ x. not (eqb x.page.0 pg))

  -- a frame claimed
  abbrev paid : Machine
  paid = claim bare new 1

  bare_run : FreeRun bare new 1
  unfolding with_mapped
  bare_run = record { some = run.some; inside = run.inside; free = run.free }

  paid_owing : Owing (more new d) paid
  paid_owing = claim_kept d bare bare_owing new 1 bare_run

  paid_row : backing_at paid new ≡ record { len = 1; holders = 1 }
  unfolding claim with_backings with_mapped
  paid_row =
      let a = o.sizes.backings in
      let b = o.sizes.frame_count in
      let c = run.inside in
      get_or-set_same m.backings new (record { len = 1; holders = 1 }) no_backing (omega arith)

  -- nothing holds it yet
  unheld : (h : Hold) → Holds bare h → h.frame ≢ new
  unfolding with_mapped
  unheld h k e =
      held_used d bare bare_owing new (record { by = h; holds = k; frame = e })
      (let a = run.free new (omega arith) (omega arith) new (omega arith) in omega arith)

  unmapped : (q : ℕ) → q < 8 → (x : Mapping) → In x (mapped_of bare q) → (s : ℕ) → In s (order_of bare q) → row_of q s ≡ row → x.page.0 ≢ pg
  unmapped q h x j s k e =
      let l = (bare_owing.listed q s h k).0 in
      let u = is.0 in
      let z : q ≡ p = omega arith in
      (in_unmapped x pg (mapped_of m p) (subst (λ l. In x l) bare_reads (subst (λ (r : ℕ). In x (mapped_of bare r)) z j))).1

  -- the page mapped again, where its entry is in row i
  module _ (n : Machine) (owing : Owing d n) (books : Books bare n) (i : ℕ) (here : entry_at n i ≡ entry_on row pg new) (alone : (backing_at n new).holders ≡ 1)
      (room : length rest < 128) where
    abbrev x : Mapping
    x = mapping pg new (region_at m p t).flags.0

    n_reads : mapped_of n p ≡ rest
    n_reads = books_mapped p books ∙ bare_reads

    n_row : region_at n p t ≡ region_at m p t
    unfolding with_mapped
    n_row = ap (λ l. get_or l row no_region) books.regions

    n_opened : (process_at n p).opened ≡ 1
    unfolding with_mapped
    n_opened =
        let l = low in
        let a = o.sizes.processes in
        ap (λ q. (get_or q p no_process).opened) books.processes ∙ ap (λ q. q.opened) (get_or-set_same m.processes p _ no_process (omega arith)) ∙ opened

    placed_new : Placed n p x
    placed_new = record {
      slot = t;
      listed = subst (λ l. In t l) (sym (books_order p books ∙ order_mapped m p p rest)) listed;
      inside = subst (λ (r : Region). contains r (page_start pg) ≡ true) (sym n_row) contained;
      base = new;
      backed = inl (record {
        at = i;
        owner = ap (λ (e : Entry). e.owner) here;
        page = ap (λ (e : Entry). e.page.0) here;
        start = ap (λ (e : Entry). e.frame.0) here;
        frame = refl;
      });
      flagged = subst (λ (r : Region). Flagged r x.flags.0 (backing_at n new).holders) (sym n_row) (record {
        private = λ z. inl refl;
        lone = λ z w. alone;
        shared = λ z. absurd (unshared z);
      });
    }

    each : (y : Mapping) → In y (map_page rest x) → Placed n p y
    each y k = go (in_mapped y x rest k)
      where
        go : (y ≡ x) ⊎ In y rest → Placed n p y
        go (inl e) = subst (Placed n p) (sym e) placed_new
        go (inr j) = owing.mapped p low y (subst (λ l. In y l) (sym n_reads) j)

    pub mapped_anew : Owing d (with_mapped n p (map_page rest x))
    mapped_anew =
        mapped_kept d n owing p n_opened (map_page rest x) (rising_map rest x (rising_unmap pg (mapped_of m p) (o.paged p low).rising)
        (λ y k. (in_unmapped y pg (mapped_of m p) k).1)) (let e = length_map rest x in omega arith) each

  -- ---- a new entry: none was there

  module _ (none : (j : ℕ) → (entry_at m j).owner ≡ row + 1 → (entry_at m j).page.0 ≢ pg) (left : not (is_found (free_entry m)) ≡ false) where
    abbrev i : ℕ
    i = row_found (free_entry m)

    entry_new : EntryNew paid i row pg new
    unfolding claim with_backings with_mapped order_of mapped_of
    entry_new = record {
      inside = (free_row m left).0;
      free = (free_row m left).1;
      low = let l = low in let u = is.0 in omega arith;
      used = is.1;
      unshared = unshared;
      contained = contained;
      none = none;
      frame = ap (λ (b : Backing). b.len) paid_row;
      agree = λ h k e. absurd (unheld h k e);
      unmapped = λ q h x j k e. unmapped q h x j k.slot k.listed e;
    }

    added : Owing d (add_entry paid row pg new)
    unfolding add_entry claim with_backings with_mapped free_entry
    added = entry_kept d paid i row pg new paid_owing entry_new

    -- no entry was there: a new one, and the page mapped
    pub own_added : length rest < 128 → Owing d (with_mapped (add_entry paid row pg new) p (map_page rest (mapping pg new (region_at m p t).flags.0)))
    unfolding add_entry claim with_backings free_entry with_mapped
    own_added room =
        mapped_anew (add_entry paid row pg new) added (books_then (books_claim bare new 1) (books_add_entry paid row pg new)) i
        (get_or-set_same m.entries i (entry_on row pg new) no_entry (free_row m left).0) (ap (λ (b : Backing). b.holders) paid_row) room

  -- ---- the entry that was there holds the new frame, and its old backing is let go

  module _ (i : ℕ) (owner : (entry_at m i).owner ≡ row + 1) (page : (entry_at m i).page.0 ≡ pg) where
    abbrev f : ℕ
    f = (entry_at m i).frame.0

    taken : (entry_at m i).owner ≢ 0
    taken z = omega arith

    there : i < length m.entries
    there = taken_there m i taken

    -- the entry free
    abbrev gone : Machine
    gone = with_entries paid (set paid.entries i no_entry)

    gone_owing : Owing (more f (more new d)) gone
    unfolding claim with_backings with_mapped order_of mapped_of
    gone_owing = free_kept (more new d) paid paid_owing i taken (λ q h x j k e z. unmapped q h x j k.slot k.listed (omega arith) (z ∙ page))

    abbrev less : Backing
    less = less_held (backing_at gone f)

    -- its backing let go
    abbrev let_go_now : Machine
    let_go_now = with_backings gone (set gone.backings f less)

    let_go_owing : Owing (more new d) let_go_now
    let_go_owing = subst (Owing (more new d)) (let_go_is gone f) (let_go_kept (more new d) gone f gone_owing)

    other : new ≢ f
    unfolding with_mapped
    other z = unheld (entry_hold (entry_at m i)) (inl (record { row = i; taken = taken; is = refl })) (sym z)

    let_go_row : backing_at let_go_now new ≡ record { len = 1; holders = 1 }
    unfolding with_backings
    let_go_row = get_or-set_other gone.backings f new less no_backing other ∙ paid_row

    each_gone : (P : ℕ → Entry → Type 0) → P i no_entry → ((j : ℕ) → j ≢ i → P j (entry_at m j)) → (j : ℕ) → P j (entry_at gone j)
    unfolding claim with_backings with_mapped
    each_gone P here else = each_row m.entries i no_entry no_entry there P here else

    before : (h : Hold) → Holds gone h → Holds bare h
    unfolding claim with_backings with_mapped
    before h (inr k) = inr k
    before h (inl k) =
        each_gone (λ j e. e.owner ≢ 0 → h ≡ entry_hold e → Holds m h) (λ u e. absurd (u refl))
        (λ j z u e. inl (record { row = j; taken = u; is = e })) k.row k.taken k.is

    entry_anew : EntryNew let_go_now i row pg new
    unfolding claim with_backings with_mapped order_of mapped_of
    entry_anew = record {
      inside = rw length-set there;
      free = each_gone (λ j e. j ≡ i → e.owner ≡ 0) (λ z. refl) (λ j y z. absurd (y z)) i refl;
      low = let l = low in let u = is.0 in omega arith;
      used = is.1;
      unshared = unshared;
      contained = contained;
      none = each_gone (λ j e. e.owner ≡ row + 1 → e.page.0 ≢ pg) (λ q w. omega arith)
          (λ j y q w. o.once_a_page j i y (λ z. omega arith) (q ∙ sym owner) (w ∙ sym page));
      frame = ap (λ (b : Backing). b.len) let_go_row;
      agree = λ h k e. absurd (unheld h (before h k) e);
      unmapped = λ q h x j k e. unmapped q h x j k.slot k.listed e;
    }

    -- the entry put again, with the new frame
    abbrev again : Machine
    again = with_entries let_go_now (set let_go_now.entries i (entry_on row pg new))

    again_books : Books bare again
    unfolding claim with_backings
    again_books = record { processes = refl; regions = refl; order = refl; mapped = refl }

    -- an entry was there: it holds the new frame
    pub own_again : length rest < 128 → Owing d (with_mapped again p (map_page rest (mapping pg new (region_at m p t).flags.0)))
    unfolding claim with_backings with_mapped
    own_again room =
        mapped_anew again (entry_kept d let_go_now i row pg new let_go_owing entry_anew) again_books i
        (get_or-set_same (set m.entries i no_entry) i (entry_on row pg new) no_entry (rw length-set there)) (ap (λ (b : Backing). b.holders) let_go_row) room

-- the frame's page entry and mapping as the model puts them
module _ (d : ℕ → ℕ) (m : Machine) (o : Owing d m) (p t pg : ℕ) (listed : In t (order_of m p)) (unshared : (region_at m p t).kind ≢ 3)
    (contained : contains (region_at m p t) (page_start pg) ≡ true) (new : ℕ) (run : FreeRun m new 1) (room : length (unmap_page (mapped_of m p) pg) < 128) where
  -- the page table that the model leaves
  abbrev table : List Mapping
  table = map_page (unmap_page (mapped_of m p) pg) (mapping pg new (region_at m p t).flags.0)

  abbrev taken_frame : Machine
  taken_frame = claim m new 1

  table_room : p * 128 + 128 ≤ length m.mapped
  table_room = let l = open_low m o p (listed_open d m o p t listed) in let a = o.sizes.mapped in omega arith

  by_new : by_entry (backing m p t pg) ≡ false → not (is_found (free_entry m)) ≡ false → Owing d (with_mapped (add_entry taken_frame (row_of p t) pg new) p table)
  unfolding claim with_backings add_entry free_entry with_mapped
  by_new none left =
      subst (Owing d) (mapped_again (add_entry taken_frame (row_of p t) pg new) p (unmap_page (mapped_of m p) pg) table table_room)
      (own_added d m o p t pg listed unshared contained new run (none_of m p t pg none) left room)

  module _ (i : ℕ) (owner : (entry_at m i).owner ≡ row_of p t + 1) (page : (entry_at m i).page.0 ≡ pg) where
    abbrev g : ℕ
    g = (entry_at m i).frame.0

    abbrev settled : Machine
    settled = with_backings taken_frame (set taken_frame.backings g (less_held (backing_at taken_frame g)))

    again_is : with_mapped (again d m o p t pg listed unshared contained new run i owner page) p table ≡ with_mapped
        (with_entries settled (set m.entries i (entry_on (row_of p t) pg new))) p table
    unfolding claim with_backings with_mapped
    again_is =
        ap (λ l. with_mapped (with_entries (with_mapped settled p (unmap_page (mapped_of m p) pg)) l) p table)
        (set-set m.entries i no_entry (entry_on (row_of p t) pg new))
        ∙ mapped_again (with_entries settled (set m.entries i (entry_on (row_of p t) pg new))) p (unmap_page (mapped_of m p) pg) table table_room

  by_old : (i : ℕ) (f : PhysFrame) (n : ℕ) → backing m p t pg ≡ ByEntry i f n
      → Owing d (with_mapped (with_entries (let_go taken_frame f.0) (set m.entries i (entry_on (row_of p t) pg new))) p table)
  by_old i f n e =
      let k = entry_of_backing m p t pg i f n e in
      let let_go_now = sym (let_go_is taken_frame (entry_at m i).frame.0) ∙ ap (λ (x : PhysFrame). let_go taken_frame x.0) (sym k.1) in
      let shape = again_is i k.0.0 k.0.1 ∙ ap (λ (x : Machine). with_mapped (with_entries x (set m.entries i (entry_on (row_of p t) pg new))) p table) let_go_now in
      subst (Owing d) shape (own_again d m o p t pg listed unshared contained new run i k.0.0 k.0.1 room)

  -- either, as the model writes it
  pub own_kept : (b : Backed) → backing m p t pg ≡ b → (not (by_entry b) && not (is_found (free_entry m))) ≡ false
      → Owing d (with_mapped (re_entry taken_frame (row_of p t) pg b new) p table)
  unfolding re_entry claim with_backings
  own_kept (ByEntry i f n) e left = by_old i f n e
  own_kept (ByRange f n) e left = by_new (ap by_entry e) left
  own_kept Unbacked e left = by_new (ap by_entry e) left
