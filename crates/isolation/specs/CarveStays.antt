-- Carve changes what no one sees: a split region's page is seen in the part that it goes to as it was in the whole.
use Rattle.std.specs.Prelude.{◌≡◌, ◌≢◌, Bool, true, false, ◌&&◌, not, cond, List, [], ◌∷◌, ◌++◌, length, get_or, set, take, drop, replicate, eqb, ltb, leb, Option, Some, None}
use Rattle.std.proofs.Math.Path.{refl, ap}
use Rattle.std.proofs.Common.{sym, subst, ◌∙◌, inl, inr, arith, length-set, get_or-set_same, get_or-set_other}
use Prim.Native.Nat.{ℕ, ◌+◌, ◌-◌, ◌*◌, ◌/◌, ◌%◌, ◌≤◌, ◌<◌, min}
use Rattle.std.proofs.Math.Decide.{ℕ_discrete}
use borrow.Author.Tests.{eqb-true, eq-eqb, ltb-true, ltb-false, leb-true, le-leb, lt-ltb}
use Rattle.model.specs.declared.Region.{Region}
use Rattle.model.specs.declared.Entry.{Entry}
use Rattle.model.specs.declared.File.{File}
use Rattle.laws.specs.Lists.{keep, pad}
use Rattle.model.specs.Machine.{Machine, State, with_machine, with_order, process_at, region_at, row_of, order_of, no_region, no_file}
use Rattle.model.specs.MachineLaws.{order_put}
use Rattle.model.specs.Lookup.{contains, region_for, free_slot, row_found, is_found, is_file}
use Rattle.laws.specs.BoolLaws.{both_true}
use Rattle.model.specs.Paging.{page_start}
use Rattle.model.specs.Backing.{backing}
use Rattle.model.specs.Create.{one}
use Rattle.model.specs.Fault.{from_file, file_page}
use Rattle.model.specs.Carve.{strictly_inside, low_part, high_part, give_entries, split_at, carve_each, carve_splits, core_carve, partial, bad_bounds}
use Rattle.model.specs.Refusals.{carve_refusals}
use Rattle.model.specs.Calls as calls
use Rattle.model.specs.Run.{Call, call, step}
use Rattle.model.specs.Sound.{Sound, Used, frame_by}
use Rattle.model.specs.Posix.{PrivateAt}
use Rattle.laws.specs.In.{In}
use Rattle.laws.specs.InLaws.{in_right, in_left}
use Rattle.laws.specs.InListsLaws.{keep_in}
use Rattle.keeping.specs.Owing.{Owing, Backs, row_at, entry_at, nothing}
use Rattle.keeping.specs.OwingOfSound.{sound_owing}
use Rattle.keeping.specs.OrderKept.{order_other}
use Rattle.keeping.specs.ArgumentLaws.{open_by_test}
use Rattle.keeping.specs.CutKept.{given, given_at, Gives, gives}
use Rattle.keeping.specs.CutKept.Gives.{gone, stays}
use Rattle.keeping.specs.CarveKept as carving
use Rattle.isolation.specs.Statements.{Stays}
use Rattle.isolation.specs.ViewLaws.{home_at, at_home, private_home, kind_at_home, bare, seen_with}
use Rattle.isolation.specs.Undisturbed.{Same, same_then, same_stays, same_undisturbed, still_home, frame_same, guarded_same, CallStays}
use Rattle.isolation.specs.StoreStays.{stay_same}
use Rattle.isolation.specs.Quiet.{Quiet, row_is, quiet_state}

-- ---- what would fill a page of a part

-- by what of the region it depends on
abbrev fill_by : List ℕ → File → ℕ → ℕ → List ℕ
fill_by bytes file n at = pad 4096 0 (take (min n (file.len - at)) (drop (file.offset + at) bytes))

abbrev bare_by : List ℕ → List File → Bool → ℕ → ℕ → ℕ → ℕ → Option ℕ
bare_by bytes files isfile file n at offset =
    cond (isfile && ltb 0 n && eqb (get_or files file no_file).readable 0) None (Some (get_or (cond isfile (fill_by bytes (get_or files file no_file) n at) (replicate 4096 0)) offset 0))

bare_is_by : (bytes : List ℕ) (files : List File) (r : Region) (page offset : ℕ) → bare bytes files r page offset ≡ bare_by bytes files (eqb r.kind 2) r.file (from_file r page) (r.offset + (page_start page - r.start.0)) offset
unfolding file_page
bare_is_by bytes files r page offset = refl

module _ (bytes : List ℕ) (files : List File) (r x : Region) (page offset : ℕ) (kind : x.kind ≡ r.kind) (file : x.file ≡ r.file) (some : from_file x page ≡ from_file r page) (place : r.kind ≡ 2 → x.offset + (page_start page - x.start.0) ≡ r.offset + (page_start page - r.start.0)) where
  -- what would fill the page of r, from a place in the file
  abbrev from : ℕ → Option ℕ
  from place = bare_by bytes files (eqb r.kind 2) r.file (from_file r page) place offset

  -- the place matters for a file alone
  anywhere : (a b : ℕ) → (r.kind ≡ 2 → a ≡ b) → from a ≡ from b
  anywhere a b same = go (eqb r.kind 2) refl
    where
      go : (f : Bool) → eqb r.kind 2 ≡ f → from a ≡ from b
      go true e = ap from (same (eqb-true r.kind 2 e))
      go false e = ap (λ (f : Bool). bare_by bytes files f r.file (from_file r page) a offset) e ∙ ap (λ (f : Bool). bare_by bytes files f r.file (from_file r page) b offset) (sym e)

  bare_part : bare bytes files x page offset ≡ bare bytes files r page offset
  bare_part =
      bare_is_by bytes files x page offset ∙ (λ k. bare_by bytes files (eqb (kind k) 2) (file k) (some k) (x.offset + (page_start page - x.start.0)) offset)
      ∙ anywhere (x.offset + (page_start page - x.start.0)) (r.offset + (page_start page - r.start.0)) place
      ∙ sym (bare_is_by bytes files r page offset)

-- the bytes of a page that come from the file: by the file length, the cut and the page's place
low_some : (n a d : ℕ) → d + 4096 ≤ a → min (min n a - d) 4096 ≡ min (n - d) 4096
low_some n a d h = omega arith

high_some : (n a d e : ℕ) → a + d ≡ e → n - a - d ≡ n - e
high_some n a d e h = omega arith

low_room : (start b page : ℕ) → start % 4096 ≡ 0 → b % 4096 ≡ 0 → start ≤ page * 4096 → page < b / 4096 → page * 4096 - start + 4096 ≤ b - start
low_room start b page x y z h = omega arith

high_room : (start b page : ℕ) → start < b → b % 4096 ≡ 0 → b / 4096 ≤ page → b - start + (page * 4096 - b) ≡ page * 4096 - start
high_room start b page x y h = omega arith

high_place : (offset start b page : ℕ) → start < b → b % 4096 ≡ 0 → b / 4096 ≤ page → offset + 1 * (b - start) + (page * 4096 - b) ≡ offset + (page * 4096 - start)
high_place offset start b page x y h = let e = high_room start b page x y h in omega arith

module _ (bytes : List ℕ) (files : List File) (r : Region) (b page offset : ℕ) (starts : r.start.0 % 4096 ≡ 0) (cut : b % 4096 ≡ 0) (above : r.start.0 < b) (inside : r.start.0 ≤ page * 4096) where
  low_bare : page < b / 4096 → bare bytes files (low_part r b) page offset ≡ bare bytes files r page offset
  unfolding low_part
  low_bare h = bare_part bytes files r (low_part r b) page offset refl refl (low_some r.length (b - r.start.0) (page * 4096 - r.start.0) (low_room r.start.0 b page starts cut inside h)) (λ e. refl)

  high_bare : b / 4096 ≤ page → bare bytes files (high_part r b) page offset ≡ bare bytes files r page offset
  unfolding high_part
  high_bare h = bare_part bytes files r (high_part r b) page offset refl refl some place
    where
      some : min (r.length - (b - r.start.0) - (page * 4096 - b)) 4096 ≡ min (r.length - (page * 4096 - r.start.0)) 4096
      some = ap (λ (n : ℕ). min n 4096) (high_some r.length (b - r.start.0) (page * 4096 - b) (page * 4096 - r.start.0) (high_room r.start.0 b page above cut h))

      -- a file's part starts further into the file
      place : r.kind ≡ 2 → r.offset + one (is_file r) * (b - r.start.0) + (page * 4096 - b) ≡ r.offset + (page * 4096 - r.start.0)
      place e =
          let file : one (is_file r) ≡ 1 = ap one (eq-eqb r.kind 2 e) in
          subst (λ (i : ℕ). r.offset + i * (b - r.start.0) + (page * 4096 - b) ≡ r.offset + (page * 4096 - r.start.0)) (sym file) (high_place r.offset r.start.0 b page above cut h)

split_files : (x : Machine) (p s b : ℕ) (k l : List ℕ) → (with_order (split_at x p s b) p l).files ≡ (with_order x p k).files
unfolding with_order split_at give_entries
split_files x p s b k l = refl

-- the parts
low_kind : (r : Region) (b : ℕ) → (low_part r b).kind ≡ r.kind
unfolding low_part
low_kind r b = refl

low_unranged : (r : Region) (b : ℕ) → r.ranged ≢ 1 → (low_part r b).ranged ≢ 1
unfolding low_part
low_unranged r b z = z

low_inside : (r : Region) (b pg : ℕ) → r.start.0 ≤ pg * 4096 → r.start.0 < b → b % 4096 ≡ 0 → pg < b / 4096 → contains (low_part r b) (page_start pg) ≡ true
unfolding low_part
low_inside r b pg x y z h = rw (le-leb r.start.0 (pg * 4096) x, lt-ltb (pg * 4096) (r.start.0 + (b - r.start.0)) (omega arith)) refl

high_kind : (r : Region) (b : ℕ) → (high_part r b).kind ≡ r.kind
unfolding high_part
high_kind r b = refl

high_unranged : (r : Region) (b : ℕ) → r.ranged ≢ 1 → (high_part r b).ranged ≢ 1
unfolding high_part
high_unranged r b z = z

high_inside : (r : Region) (b pg : ℕ) → pg * 4096 < r.start.0 + r.size → r.start.0 < b → b < r.start.0 + r.size → b % 4096 ≡ 0 → b / 4096 ≤ pg → contains (high_part r b) (page_start pg) ≡ true
unfolding high_part
high_inside r b pg x y v z h = rw (le-leb b (pg * 4096) (omega arith), lt-ltb (pg * 4096) (b + (r.size - (b - r.start.0))) (omega arith)) refl

-- ---- what is at home stays so, and is seen as it was

record Moved (st : State) (m n : Machine) (q c : ℕ) : Type 0 where
  same : Same (with_machine st m) (with_machine st n) q c
  slot : ℕ
  home : region_for n q (page_start (c / 4096)) ≡ Some slot

abbrev Still : State → Machine → Machine → Type 0
Still st m n = (q c v : ℕ) → region_for m q (page_start (c / 4096)) ≡ Some v → Moved st m n q c

-- a page whose row, entry and list are left alone
quiet_moved : {d e : ℕ → ℕ} (st : State) (m n : Machine) → Owing d m → Owing e n → (q c v : ℕ) → region_for m q (page_start (c / 4096)) ≡ Some v → Quiet m n q v (c / 4096) → Moved st m n q c
quiet_moved st m n o k q c v e quiet =
    let un = quiet_state (with_machine st m) n q v (c / 4096) (c % 4096) quiet in
    record { same = same_undisturbed (with_machine st m) (with_machine st n) o k q c v e un; slot = v; home = still_home (with_machine st m) (with_machine st n) o k q c v e un }

-- ---- one split

module _ (st : State) (d : ℕ → ℕ) (p : ℕ) (x : Machine) (l : List ℕ) (s : ℕ) (out : List ℕ) (k : carving.Carving d p x l (s ∷ out)) (b : ℕ) (whole : carving.Whole (region_at x p s)) (cut : strictly_inside (region_at x p s) b ≡ true) (page : b % 4096 ≡ 0) (found : not (is_found (free_slot x p)) ≡ false) where
  abbrev w : Machine
  w = with_order x p (l ++ (s ∷ out))

  abbrev t : ℕ
  t = row_found (free_slot x p)

  abbrev list : List ℕ
  list = (l ++ (s ∷ [])) ++ (t ∷ out)

  abbrev n : Machine
  n = with_order (split_at x p s b) p list

  abbrev r : Region
  r = region_at x p s

  abbrev src : ℕ
  src = row_of p s

  abbrev row : ℕ
  row = row_of p t

  ow : Owing d w
  ow = k.owing

  on : Owing d n
  on = carving.split_owing d p x l s out k b whole cut page found

  low : p < 8
  low = carving.w_low d p x l s out k b whole cut page found

  is_free : (t < 64) × ((region_at x p t).kind ≡ 0)
  is_free = carving.is_free d p x l s out k b whole cut page found

  few : length list ≤ 64
  few = carving.list_few d p x l s out k b whole cut page found

  -- lists
  n_order : order_of n p ≡ list
  unfolding split_at give_entries
  n_order = let q = k.room in order_put (split_at x p s b) p k.inside list (omega arith) few

  n_other : (q : ℕ) → q ≢ p → order_of n q ≡ order_of w q
  unfolding split_at give_entries with_order order_of
  n_other q z = ap (λ (y : Machine). order_of y q) (sym (carving.order_again x p (l ++ (s ∷ out)) list k.room)) ∙ order_other d w ow p k.opened list q z

  n_listed : (q v : ℕ) → In v (order_of w q) → In v (order_of n q)
  n_listed q v i = go (ℕ_discrete q p)
    where
      go : Dec (q ≡ p) → In v (order_of n q)
      go (yes z) = subst (λ (j : ℕ). In v (order_of n j)) (sym z) (subst (λ y. In v y) (sym n_order) (carving.list_has d p x l s out k b whole cut page found v (subst (λ (j : ℕ). In v (order_of w j)) z i)))
      go (no z) = subst (λ y. In v y) (sym (n_other q z)) i

  t_listed : In t (order_of n p)
  t_listed = subst (λ y. In t y) (sym n_order) (in_right t (l ++ (s ∷ [])) (t ∷ out) (inl refl))

  s_listed : In s (order_of w p)
  s_listed = (carving.splits d p x l s out k b whole cut page found).listed

  s_is : (s < 64) × Used r
  unfolding with_order
  s_is = ow.listed p s low s_listed

  differ : src ≢ row
  differ e = s_is.1 (ap (λ (j : ℕ). (row_at x j).kind) e ∙ is_free.1)

  -- rows
  n_regions : n.regions ≡ set (set x.regions src (low_part r b)) row (high_part r b)
  unfolding split_at give_entries with_order
  n_regions = refl

  w_row : (j : ℕ) → row_at w j ≡ row_at x j
  unfolding with_order
  w_row j = refl

  w_size : length x.regions ≡ 512
  unfolding with_order
  w_size = ow.sizes.regions

  old_row : (j : ℕ) → j ≢ src → j ≢ row → row_at n j ≡ row_at w j
  old_row j a c = ap (λ y. get_or y j no_region) n_regions ∙ get_or-set_other (set x.regions src (low_part r b)) row j (high_part r b) no_region c ∙ get_or-set_other x.regions src j (low_part r b) no_region a ∙ sym (w_row j)

  low_row : row_at n src ≡ low_part r b
  low_row =
      let a = w_size in
      let h = low in
      let c = s_is.0 in
      ap (λ y. get_or y src no_region) n_regions ∙ get_or-set_other (set x.regions src (low_part r b)) row src (high_part r b) no_region differ ∙ get_or-set_same x.regions src (low_part r b) no_region (omega arith)

  high_row : row_at n row ≡ high_part r b
  high_row = ap (λ y. get_or y row no_region) n_regions ∙ get_or-set_same (set x.regions src (low_part r b)) row (high_part r b) no_region (rw length-set (let a = w_size in let h = low in let c = is_free.0 in omega arith))

  -- entries
  n_entry : (i : ℕ) → entry_at n i ≡ given src b row (entry_at w i)
  unfolding split_at give_entries with_order
  n_entry i = given_at src b row x.entries i

  gave : (i : ℕ) → Gives src b row (entry_at w i)
  gave i = gives src b row (entry_at w i)

  no_owner : (i : ℕ) → (entry_at w i).owner ≢ row + 1
  no_owner i e = let back : (entry_at w i).owner - 1 ≡ row = omega arith in ((ow.entries i).used (λ z. omega arith)).used (ap (λ (j : ℕ). (row_at w j).kind) back ∙ ap (λ (y : Region). y.kind) (w_row row) ∙ is_free.1)

  -- what is not split
  elsewhere : (q c v : ℕ) → region_for w q (page_start (c / 4096)) ≡ Some v → row_of q v ≢ src → Moved st w n q c
  elsewhere q c v e z =
      let h = home_at w ow q (c / 4096) v e in
      let used = (ow.listed q v h.low h.listed).1 in
      let other : row_of q v ≢ row = λ y. used (ap (λ (j : ℕ). (row_at w j).kind) y ∙ ap (λ (y : Region). y.kind) (w_row row) ∙ is_free.1) in
      quiet_moved st w n ow on q c v e (record { files = n_files; row = row_is (old_row (row_of q v) z other); forth = λ i a g. forth i a (gave i); back = λ i a g. back other i a (gave i); listed = n_listed q v h.listed })
    where
      n_files : n.files ≡ w.files
      n_files = split_files x p s b (l ++ (s ∷ out)) list

      forth : (i : ℕ) → (entry_at w i).owner ≡ row_of q v + 1 → Gives src b row (entry_at w i) → entry_at n i ≡ entry_at w i
      forth i a (gone f g y) = absurd (z (omega arith))
      forth i a (stays f y) = n_entry i ∙ y

      back : row_of q v ≢ row → (i : ℕ) → (entry_at n i).owner ≡ row_of q v + 1 → Gives src b row (entry_at w i) → entry_at n i ≡ entry_at w i
      back other i a (gone f g y) = let own = ap (λ (e : Entry). e.owner) (n_entry i ∙ y) in absurd (other (omega arith))
      back other i a (stays f y) = n_entry i ∙ y

  -- what is: the part at slot u
  module _ (c : ℕ) (home : region_for w p (page_start (c / 4096)) ≡ Some s) (u : ℕ) (y : Region) (is : row_at n (row_of p u) ≡ y) (listed : In u (order_of n p)) (kind : y.kind ≡ r.kind) (unranged : y.ranged ≢ 1) (inside : contains y (page_start (c / 4096)) ≡ true)
      (fill : bare st.bytes x.files y (c / 4096) (c % 4096) ≡ bare st.bytes x.files r (c / 4096) (c % 4096))
      (forth : (i : ℕ) → (entry_at w i).owner ≡ src + 1 → (entry_at w i).page.0 ≡ c / 4096 → ((entry_at n i).owner ≡ row_of p u + 1) × (((entry_at n i).page.0 ≡ c / 4096) × ((entry_at n i).frame.0 ≡ (entry_at w i).frame.0)))
      (back : (i : ℕ) → (entry_at n i).owner ≡ row_of p u + 1 → (entry_at n i).page.0 ≡ c / 4096 → ((entry_at w i).owner ≡ src + 1) × (((entry_at w i).page.0 ≡ c / 4096) × ((entry_at w i).frame.0 ≡ (entry_at n i).frame.0))) where
    frame : frame_by (backing n p u (c / 4096)) ≡ frame_by (backing w p s (c / 4096))
    frame = frame_same w n ow on p s p u (c / 4096) there here
      where
        there : (base fr : ℕ) → Backs w src (c / 4096) base fr → (j : ℕ) × Backs n (row_of p u) (c / 4096) j fr
        there base fr (inl a) = let e = forth a.at a.owner a.page in (base, inl (record { at = a.at; owner = e.0; page = e.1.0; start = e.1.1 ∙ a.start; frame = a.frame }))
        there base fr (inr a) = absurd (whole.unranged (ap (λ (z : Region). z.ranged) (sym (w_row src)) ∙ a.ranged))

        here : (base fr : ℕ) → Backs n (row_of p u) (c / 4096) base fr → (j : ℕ) × Backs w src (c / 4096) j fr
        here base fr (inl a) = let e = back a.at a.owner a.page in (base, inl (record { at = a.at; owner = e.0; page = e.1.0; start = e.1.1 ∙ a.start; frame = a.frame }))
        here base fr (inr a) = absurd (unranged (ap (λ (z : Region). z.ranged) (sym is) ∙ a.ranged))

    n_home : region_for n p (page_start (c / 4096)) ≡ Some u
    n_home = at_home n on p (c / 4096) u (record { low = low; listed = listed; inside = ap (λ (z : Region). contains z (page_start (c / 4096))) is ∙ inside })

    filled : bare st.bytes n.files (row_at n (row_of p u)) (c / 4096) (c % 4096) ≡ bare st.bytes w.files (row_at w src) (c / 4096) (c % 4096)
    unfolding with_order split_at give_entries
    filled = ap (λ (z : Region). bare st.bytes x.files z (c / 4096) (c % 4096)) is ∙ fill

    part_moved : Moved st w n p c
    part_moved = record {
      same = record {
        seen = seen_with (with_machine st w) (with_machine st n) p s p u c home n_home filled (record { some = λ f e. (f, (frame ∙ e, refl)); none = λ e. frame ∙ e });
        kind = kind_at_home (with_machine st n) p c u n_home ∙ ap (λ (z : Region). z.kind) is ∙ kind ∙ ap (λ (z : Region). z.kind) (sym (w_row src)) ∙ sym (kind_at_home (with_machine st w) p c s home);
      };
      slot = u;
      home = n_home;
    }

  module _ (c : ℕ) (home : region_for w p (page_start (c / 4096)) ≡ Some s) where
    abbrev pg : ℕ
    pg = c / 4096

    w_inside : contains r (page_start pg) ≡ true
    w_inside = ap (λ (z : Region). contains z (page_start pg)) (sym (w_row src)) ∙ (home_at w ow p pg s home).inside

    span : (r.start.0 ≤ pg * 4096) × (pg * 4096 < r.start.0 + r.size)
    span = let q = both_true (leb r.start.0 (pg * 4096)) (ltb (pg * 4096) (r.start.0 + r.size)) w_inside in (leb-true _ _ q.0, ltb-true _ _ q.1)

    cuts : (r.start.0 < b) × (b < r.start.0 + r.size)
    cuts = let q = both_true (ltb r.start.0 b) (ltb b (r.start.0 + r.size)) cut in (ltb-true _ _ q.0, ltb-true _ _ q.1)

    begins : r.start.0 % 4096 ≡ 0
    unfolding with_order
    begins = eqb-true (r.start.0 % 4096) 0 ((ow.regions src).used s_is.1).aligned_start

    low_moved : pg < b / 4096 → Moved st w n p c
    low_moved h =
        let inside = low_inside r b pg span.0 cuts.0 page h in
        let fill = low_bare st.bytes x.files r b pg (c % 4096) begins page cuts.0 span.0 h in
        part_moved c home s (low_part r b) low_row (n_listed p s s_listed) (low_kind r b) (low_unranged r b whole.unranged) inside fill (λ i a g. forth i a g (gave i)) (λ i a g. back i a g (gave i))
      where
        forth : (i : ℕ) → (entry_at w i).owner ≡ src + 1 → (entry_at w i).page.0 ≡ pg → Gives src b row (entry_at w i) → ((entry_at n i).owner ≡ src + 1) × (((entry_at n i).page.0 ≡ pg) × ((entry_at n i).frame.0 ≡ (entry_at w i).frame.0))
        forth i a g (gone f j z) = absurd (omega arith)
        forth i a g (stays f z) = let e = n_entry i ∙ z in (ap (λ (v : Entry). v.owner) e ∙ a, (ap (λ (v : Entry). v.page.0) e ∙ g, ap (λ (v : Entry). v.frame.0) e))

        back : (i : ℕ) → (entry_at n i).owner ≡ src + 1 → (entry_at n i).page.0 ≡ pg → Gives src b row (entry_at w i) → ((entry_at w i).owner ≡ src + 1) × (((entry_at w i).page.0 ≡ pg) × ((entry_at w i).frame.0 ≡ (entry_at n i).frame.0))
        back i a g (gone f j z) = let own = ap (λ (v : Entry). v.owner) (n_entry i ∙ z) in absurd (differ (omega arith))
        back i a g (stays f z) = let e = sym (n_entry i ∙ z) in (ap (λ (v : Entry). v.owner) e ∙ a, (ap (λ (v : Entry). v.page.0) e ∙ g, ap (λ (v : Entry). v.frame.0) e))

    high_moved : b / 4096 ≤ pg → Moved st w n p c
    high_moved h =
        let inside = high_inside r b pg span.1 cuts.0 cuts.1 page h in
        let fill = high_bare st.bytes x.files r b pg (c % 4096) begins page cuts.0 span.0 h in
        part_moved c home t (high_part r b) high_row t_listed (high_kind r b) (high_unranged r b whole.unranged) inside fill (λ i a g. forth i a g (gave i)) (λ i a g. back i a g (gave i))
      where
        forth : (i : ℕ) → (entry_at w i).owner ≡ src + 1 → (entry_at w i).page.0 ≡ pg → Gives src b row (entry_at w i) → ((entry_at n i).owner ≡ row + 1) × (((entry_at n i).page.0 ≡ pg) × ((entry_at n i).frame.0 ≡ (entry_at w i).frame.0))
        forth i a g (gone f j z) = let e = n_entry i ∙ z in (ap (λ (v : Entry). v.owner) e, (ap (λ (v : Entry). v.page.0) e ∙ g, ap (λ (v : Entry). v.frame.0) e))
        forth i a g (stays f z) = let q = f a in absurd (omega arith)

        back : (i : ℕ) → (entry_at n i).owner ≡ row + 1 → (entry_at n i).page.0 ≡ pg → Gives src b row (entry_at w i) → ((entry_at w i).owner ≡ src + 1) × (((entry_at w i).page.0 ≡ pg) × ((entry_at w i).frame.0 ≡ (entry_at n i).frame.0))
        back i a g (gone f j z) = let e = n_entry i ∙ z in (f, (ap (λ (v : Entry). v.page.0) (sym e) ∙ g, ap (λ (v : Entry). v.frame.0) (sym e)))
        back i a g (stays f z) = absurd (no_owner i (ap (λ (v : Entry). v.owner) (sym (n_entry i ∙ z)) ∙ a))

    split_moved : Moved st w n p c
    split_moved = go (ltb pg (b / 4096)) refl
      where
        go : (z : Bool) → ltb pg (b / 4096) ≡ z → Moved st w n p c
        go true e = low_moved (ltb-true pg (b / 4096) e)
        go false e = high_moved (ltb-false pg (b / 4096) e)

  split_still : Still st w n
  split_still q c v e = go (ℕ_discrete (row_of q v) src)
    where
      go : Dec (row_of q v ≡ src) → Moved st w n q c
      go (no z) = elsewhere q c v e z
      go (yes z) =
          let h = home_at w ow q (c / 4096) v e in
          let a = (ow.listed q v h.low h.listed).0 in
          let g = s_is.0 in
          let same : p ≡ q = omega arith in
          let slot : v ≡ s = omega arith in
          subst (λ (j : ℕ). Moved st w n j c) same (split_moved c (subst (λ (j : ℕ). region_for w j (page_start (c / 4096)) ≡ Some s) (sym same) (e ∙ ap (λ (j : ℕ). Some j) slot)))

-- ---- the whole carve

moved_then : (st : State) (a b c : Machine) → Still st a b → Still st b c → Still st a c
moved_then st a b c f g q x v e = let k = f q x v e in let j = g q x k.slot k.home in record { same = same_then k.same j.same; slot = j.slot; home = j.home }

-- the list put in another order
list_files : (m : Machine) (p : ℕ) (k : List ℕ) → (with_order m p k).files ≡ m.files
unfolding with_order
list_files m p k = refl

list_row : (m : Machine) (p : ℕ) (k : List ℕ) (j : ℕ) → row_at (with_order m p k) j ≡ row_at m j
unfolding with_order
list_row m p k j = refl

list_entry : (m : Machine) (p : ℕ) (k : List ℕ) (j : ℕ) → entry_at (with_order m p k) j ≡ entry_at m j
unfolding with_order
list_entry m p k j = refl

module _ (st : State) (m : Machine) (o : Owing nothing m) (p : ℕ) (opened : (process_at m p).opened ≡ 1) (f : ℕ → Bool) (k : carving.Carving nothing p m (keep (λ t. not (f t)) (order_of m p)) (keep f (order_of m p))) where
  abbrev stay : List ℕ
  stay = keep (λ t. not (f t)) (order_of m p)

  abbrev leave : List ℕ
  leave = keep f (order_of m p)

  abbrev first : Machine
  first = with_order m p (stay ++ leave)

  all_in : (x : ℕ) → In x (order_of m p) → In x (stay ++ leave)
  all_in x i = go (f x) refl
    where
      go : (c : Bool) → f x ≡ c → In x (stay ++ leave)
      go true e = in_right x stay leave (keep_in f x (order_of m p) i e)
      go false e = in_left x stay leave (keep_in (λ s. not (f s)) x (order_of m p) i (ap not e))

  first_listed : (q v : ℕ) → In v (order_of m q) → In v (order_of first q)
  first_listed q v i = go (ℕ_discrete q p)
    where
      go : Dec (q ≡ p) → In v (order_of first q)
      go (yes z) = subst (λ (j : ℕ). In v (order_of first j)) (sym z) (subst (λ y. In v y) (sym (let r = k.room in order_put m p k.inside (stay ++ leave) (omega arith) k.few)) (all_in v (subst (λ (j : ℕ). In v (order_of m j)) z i)))
      go (no z) = subst (λ y. In v y) (sym (order_other nothing m o p opened (stay ++ leave) q z)) i

  first_still : Still st m first
  first_still q c v e =
      let h = home_at m o q (c / 4096) v e in
      let quiet : Quiet m first q v (c / 4096) = record {
        files = list_files m p (stay ++ leave);
        row = row_is (list_row m p (stay ++ leave) (row_of q v));
        forth = λ i a g. list_entry m p (stay ++ leave) i;
        back = λ i a g. list_entry m p (stay ++ leave) i;
        listed = first_listed q v h.listed;
      } in
      quiet_moved st m first o k.owing q c v e quiet

pub carve_same : (s : State) → Sound s → (p a e q c : ℕ) → PrivateAt s q c → Stays s (calls.carve s p a e).state q c
unfolding calls.carve carve_refusals core_carve carve_splits
carve_same s sound p a e q c private = guarded_same s _ (carve_refusals s p a e) _ (λ x. Stays s x q c) (stay_same s q c private) (λ k. core (open_by_test s.machine p k.0) k.1.0)
  where
    o : Owing nothing s.machine
    o = sound_owing s sound

    f : ℕ → Bool
    f = partial s.machine p a e

    core : (process_at s.machine p).opened ≡ 1 → bad_bounds a e ≡ false → Stays s (with_machine s (carve_each (keep f (order_of s.machine p)) (with_order s.machine p (keep (λ t. not (f t)) (order_of s.machine p))) p a e).0) q c
    core opened bad =
        let steps : carving.Steps nothing p (λ x. Still s s.machine x) = λ x l t out k b w g h j so. moved_then s s.machine _ _ so (split_still s nothing p x l t out k b w g h j) in
        let still = (carving.carve_with s.machine o p a e opened bad (λ x. Still s s.machine x) steps (first_still s s.machine o p opened f (carving.carve_begins s.machine o p a e opened bad (λ x. Still s s.machine x) steps))).1 in
        let h = private_home s q c private in
        same_stays private (still q c h.0 h.1).same

pub carve_stays : (p a e : ℕ) → CallStays (Call.carve p a e)
unfolding step call
carve_stays p a e s sound q c private free = carve_same s sound p a e q c private
