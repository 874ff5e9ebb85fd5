-- A clone that shares its backings: everyone sees what he saw, and the clone what the source shows.
use Rattle.std.specs.Prelude.{◌≡◌, ◌⊎◌, ◌≢◌, Bool, ◌&&◌, not, cond, List, [], ◌∷◌, ◌++◌, ℕ, ◌+◌, ◌-◌, ◌/◌, ◌≤◌, ◌<◌, length, get_or, set, eqb, Some}
use Rattle.std.proofs.Math.Path.{refl, ap}
use Rattle.std.proofs.Common.{sym, subst, ◌∙◌, inl, inr, true≢false, arith, get_or-set_same, eqb-true}
use Rattle.std.proofs.Math.Bool.{true, false}
use Rattle.std.proofs.Math.Seq.{get_or-set_other}
use Rattle.model.specs.declared.Region.{Region}
use Rattle.model.specs.declared.Mapping.{Mapping}
use Rattle.model.specs.declared.Entry.{Entry}
use Rattle.model.specs.declared.Backing.{Backing}
use Rattle.laws.specs.Lists.{each, count}
use Rattle.model.specs.Machine.{Machine, State, with_machine, with_mapped, with_order, process_at, region_at, row_of, order_of, mapped_of, no_region, no_entry, no_backing}
use Rattle.model.specs.MachineLaws.{Books, books_then, books_order, books_mapped, order_mapped, mapped_put}
use Rattle.model.specs.Lookup.{contains, is_shared, is_ranged, free_slot, free_entry, free_entries, row_found, is_found, segment_len}
use Rattle.model.specs.Paging.{page_start, mapping, maps_in, translate, remap_where}
use Rattle.model.specs.Backing.{hold, add_entry, with_backings, backing, backing_at}
use Rattle.model.specs.Segments.{reserved}
use Rattle.model.specs.Create.{add_region}
use Rattle.model.specs.Clone.{Held, single_pages, share_entry, share_range, demote, shared_row}
use Rattle.model.specs.Access.{page_at}
use Rattle.model.specs.Sound.{Sound, Used, frame_by}
use Rattle.model.specs.Posix.{home_slot, frame_in, Inherited}
use Rattle.model.specs.MappedBelowLaws.{length_remap}
use Rattle.laws.specs.In.{In}
use Rattle.laws.specs.InLaws.{in_right, in_either}
use Rattle.keeping.specs.Owing.{Owing, row_at, entry_at, nothing}
use Rattle.keeping.specs.OwingOfSound.{sound_owing}
use Rattle.keeping.specs.OwingLaws.{home_one, open_low, listed_open}
use Rattle.keeping.specs.PagesKept.{few_pages}
use Rattle.keeping.specs.EntriesKept.{entry_on, free_row}
use Rattle.keeping.specs.AddedKept.{Added, added_order, added_other, free_slot_found}
use Rattle.keeping.specs.ClonePagesLaws.{single_of, entries_fewer, entry_left}
use Rattle.keeping.specs.Grows.{grows_listed}
use Rattle.keeping.specs.CloneShareKept as sharing
use Rattle.isolation.specs.ViewLaws.{Home, home_at, at_home, looks, seen_as, kind_as}
use Rattle.isolation.specs.Undisturbed.{EntriesTo, Alike, frame_alike}
use Rattle.isolation.specs.LoneHolder.{no_entry_else, no_range_else}
use Rattle.isolation.specs.CreateStays.{add_mapped}
use Rattle.isolation.specs.ClonedPages.{single_in}
use Rattle.isolation.specs.Beside.{RowNow, Beside}
use Rattle.isolation.specs.EntriesAdded.{NewOne, Grown, grown_none, grown_more}
use Rattle.isolation.specs.Cloned.{Shown, Cloned, beside_facts, beside_source}

-- ---- the entries, one after the other

-- a page's entry has the frame that the source's has
abbrev SameFrame : Held → ℕ → Type 0
SameFrame h f = f ≡ h.frame

shared_entries : (row : ℕ) (h : Held) (m : Machine) → (share_entry row h m).entries ≡ set m.entries (row_found (free_entry m)) (entry_on row h.page h.frame)
unfolding share_entry add_entry hold with_backings free_entry
shared_entries row h m = refl

free_same : (m n : Machine) → n.entries ≡ m.entries → free_entries m ≡ free_entries n
unfolding free_entries
free_same m n e = ap (λ l. count (λ x. eqb x.owner 0) l) (sym e)

one_fewer : (row : ℕ) (h : Held) (l : List Held) (m : Machine) → length (h ∷ l) ≤ free_entries m → length l ≤ free_entries (share_entry row h m)
unfolding share_entry add_entry hold with_backings free_entry free_entries
one_fewer row h l m left =
    let some = free_row m (entry_left m (omega arith)) in
    let a = entries_fewer m (row_found (free_entry m)) (entry_on row h.page h.frame) some.0 some.1 (λ z. omega arith) in
    omega arith

grown : (row : ℕ) (l : List Held) (m : Machine) → length l ≤ free_entries m → Grown SameFrame row l m (each (share_entry row) l m)
unfolding each
grown row [] m left = grown_none SameFrame row m
grown row (h ∷ l) m left =
    let some = free_row m (entry_left m (omega arith)) in
    grown_more SameFrame SameFrame row h l m (share_entry row h m) (each (share_entry row) l (share_entry row h m)) (row_found (free_entry m)) h.frame (shared_entries row h m) some.0 some.1 refl (λ x i f k. k)
    (grown row l (share_entry row h m) (one_fewer row h l m left))

-- a backing that no page of the list is in stays as it was
shared_backing : (row : ℕ) (l : List Held) (m : Machine) (f : ℕ) → ((h : Held) → In h l → h.frame ≢ f) → backing_at (each (share_entry row) l m) f ≡ backing_at m f
unfolding each share_entry add_entry hold with_backings
shared_backing row [] m f other = refl
shared_backing row (h ∷ l) m f other =
    shared_backing row l (share_entry row h m) f (λ g i. other g (inr i))
    ∙ get_or-set_other m.backings h.frame f (record { len = (backing_at m h.frame).len; holders = (backing_at m h.frame).holders + 1 }) no_backing (λ z. other h (inl refl) (sym z))

-- the books stay
share_books : (row : ℕ) (l : List Held) (n : Machine) → Books n (each (share_entry row) l n)
unfolding each share_entry add_entry hold with_backings
share_books row [] n = record { processes = refl; regions = refl; order = refl; mapped = refl }
share_books row (h ∷ l) n = books_then (record { processes = refl; regions = refl; order = refl; mapped = refl }) (share_books row l (share_entry row h n))

-- ---- the source's mappings

-- a page that is mapped again nowhere translates as it did
translate_remap : (f : Mapping → Bool) (g : Mapping → ℕ) (pg : ℕ) (l : List Mapping) → ((x : Mapping) → x.page.0 ≡ pg → f x ≡ false) → translate (remap_where f g l) pg ≡ translate l pg
unfolding translate remap_where
translate_remap f g pg [] other = refl
translate_remap f g pg (x ∷ l) other = go (eqb x.page.0 pg) refl (f x) refl (translate_remap f g pg l other)
  where
    again : Bool → Mapping
    again b = cond b (mapping x.page.0 x.frame.0 (g x)) x

    go : (a : Bool) → eqb x.page.0 pg ≡ a → (b : Bool) → f x ≡ b → translate (remap_where f g l) pg ≡ translate l pg → cond (eqb (again b).page.0 pg) (Some (again b)) (translate (remap_where f g l) pg) ≡ cond a (Some x) (translate l pg)
    go a e false h more = λ i. cond (e i) (Some x) (more i)
    go true e true h more = absurd (true≢false (sym h ∙ other x (eqb-true x.page.0 pg e)))
    go false e true h more = λ i. cond (e i) (Some (again true)) (more i)

-- ---- the clone

module _ (s : State) (sound : Sound s) (p t q : ℕ) (listed : In t (order_of s.machine p)) (opened : (process_at s.machine q).opened ≡ 1) (free : not (is_found (free_slot s.machine q)) ≡ false)
    (clear : reserved s.machine q (region_at s.machine p t).start.0 (segment_len (region_at s.machine p t)) ≡ false) (left : length (single_pages s.machine.entries (row_of p t)) ≤ free_entries s.machine) where
  abbrev m : Machine
  m = s.machine

  o : Owing nothing m
  o = sound_owing s sound

  abbrev r : Region
  r = region_at m p t

  abbrev src : ℕ
  src = row_of p t

  abbrev u : ℕ
  u = row_found (free_slot m q)

  abbrev row : ℕ
  row = row_of q u

  q_low : q < 8
  q_low = open_low m o q opened

  slot : (u < 64) × ((region_at m q u).kind ≡ 0)
  slot = free_slot_found nothing m o q q_low free

  abbrev pages : List Held
  pages = single_pages m.entries src

  abbrev added : Machine
  added = add_region (share_range r (demote m p t)) q (shared_row r)

  abbrev n : Machine
  n = each (share_entry row) pages added

  n_owing : Owing nothing n
  n_owing = sharing.share_kept nothing m o p t q listed opened free clear left

  added_is : (b : Bool) → is_ranged r ≡ b → added ≡ add_region (sharing.ready nothing m o p t q listed opened free clear b) q (shared_row r)
  unfolding share_range demote
  added_is b e = ap (λ (c : Bool). add_region (sharing.ready nothing m o p t q listed opened free clear c) q (shared_row r)) e

  added_regions : added.regions ≡ set m.regions row (shared_row r)
  added_regions = ap (λ (x : Machine). x.regions) (added_is (is_ranged r) refl) ∙ sharing.added_regions nothing m o p t q listed opened free clear (is_ranged r)

  added_entries : added.entries ≡ m.entries
  added_entries = ap (λ (x : Machine). x.entries) (added_is (is_ranged r) refl) ∙ sharing.added_entries nothing m o p t q listed opened free clear (is_ranged r)

  -- the machine to which the region is added, b: whether its range is held once more
  abbrev ready : Bool → Machine
  ready b = sharing.ready nothing m o p t q listed opened free clear b

  new_region : (b : Bool) → is_ranged r ≡ b → Added (ready b) q (shared_row r)
  new_region b e = sharing.region_new nothing m o p t q listed opened free clear b e

  ready_order : (b : Bool) (x : ℕ) → order_of (ready b) x ≡ order_of m x
  unfolding hold with_backings order_of
  ready_order true x = order_mapped m p x _
  ready_order false x = order_mapped m p x _

  ready_slot : (b : Bool) → row_found (free_slot (ready b) q) ≡ u
  unfolding hold with_backings free_slot with_mapped
  ready_slot true = refl
  ready_slot false = refl

  n_regions : n.regions ≡ set m.regions row (shared_row r)
  n_regions = (share_books row pages added).regions ∙ added_regions

  others : (x : ℕ) → x ≢ q → order_of n x ≡ order_of m x
  others x z = books_order x (share_books row pages added) ∙ go (is_ranged r) refl
    where
      go : (b : Bool) → is_ranged r ≡ b → order_of added x ≡ order_of m x
      go b e =
          let owing = sharing.ready_owing nothing m o p t q listed opened free clear b e in
          ap (λ (y : Machine). order_of y x) (added_is b e) ∙ added_other nothing (ready b) q (shared_row r) owing (new_region b e) x z ∙ ready_order b x

  own_order : order_of n q ≡ order_of m q ++ (u ∷ [])
  own_order = books_order q (share_books row pages added) ∙ go (is_ranged r) refl
    where
      go : (b : Bool) → is_ranged r ≡ b → order_of added q ≡ order_of m q ++ (u ∷ [])
      go b e =
          let owing = sharing.ready_owing nothing m o p t q listed opened free clear b e in
          ap (λ (y : Machine). order_of y q) (added_is b e) ∙ added_order nothing (ready b) q (shared_row r) owing (new_region b e) ∙ (λ i. ready_order b q i ++ (ready_slot b i ∷ []))

  own : In u (order_of n q)
  own = subst (λ l. In u l) (sym own_order) (in_right u (order_of m q) (u ∷ []) (inl refl))

  own_only : (v : ℕ) → In v (order_of n q) → In v (order_of m q) ⊎ (v ≡ u)
  own_only v i = go (in_either v (order_of m q) (u ∷ []) (subst (λ l. In v l) own_order i))
    where
      go : In v (order_of m q) ⊎ In v (u ∷ []) → In v (order_of m q) ⊎ (v ≡ u)
      go (inl j) = inl j
      go (inr (inl z)) = inr z
      go (inr (inr z)) = absurd z

  more : Grown SameFrame row pages added n
  more = grown row pages added (enough added_entries)
    where
      enough : added.entries ≡ m.entries → length pages ≤ free_entries added
      enough e = subst (λ (k : ℕ). length pages ≤ k) (free_same m added e) left

  was : (i : ℕ) → entry_at added i ≡ entry_at m i
  was i = ap (λ l. get_or l i no_entry) added_entries

  -- a row of the entries now: what it was, or free before and one of the pages
  abbrev Row : ℕ → Type 0
  Row i = (entry_at n i ≡ entry_at m i) ⊎ NewOne SameFrame m n row pages i

  row_now : (i : ℕ) → Row i
  row_now i = go (more.old i)
    where
      go : (entry_at n i ≡ entry_at added i) ⊎ NewOne SameFrame added n row pages i → Row i
      go (inl a) = inl (a ∙ was i)
      go (inr a) = inr (record { free = ap (λ (x : Entry). x.owner) (sym (was i)) ∙ a.free; page = a.page; among = a.among; frame = a.frame; is = a.is; right = a.right })

  pub share_beside : Beside s (with_machine s n) q u
  share_beside = record {
    bytes = refl;
    files = (sharing.share_lent nothing m o p t q listed opened free clear).files;
    small = slot.0;
    free = slot.1;
    rows = λ j z. ap (λ l. get_or l j no_region) n_regions ∙ get_or-set_other m.regions row j (shared_row r) no_region z;
    old = λ i. old i (row_now i);
    frames = λ i pg base fr b j h. refl;
    listed = grows_listed (sharing.share_grows nothing m o p t q listed opened free clear);
    others = others;
    own = own_only;
  }
    where
      old : (i : ℕ) → Row i → RowNow s (with_machine s n) q u i
      old i (inl a) = inl a
      old i (inr a) = inr (a.free, ap (λ (x : Entry). x.owner) a.is)

  -- ---- the clone's own pages

  pub new_row : region_at n q u ≡ shared_row r
  new_row = ap (λ l. get_or l row no_region) n_regions ∙ get_or-set_same m.regions row (shared_row r) no_region (let a = o.sizes.regions in let b = slot.0 in let c = q_low in omega arith)

  p_low : p < 8
  p_low = open_low m o p (listed_open nothing m o p t listed)

  used : Used r
  used = (o.listed p t p_low listed).1

  -- nothing had entries in the free row
  unowned : (i : ℕ) → (entry_at m i).owner ≡ row + 1 → ⊥
  unowned i e = let back : (entry_at m i).owner - 1 ≡ row = omega arith in ((o.entries i).used (λ z. omega arith)).used (ap (λ (j : ℕ). (row_at m j).kind) back ∙ slot.1)

  -- an entry of the source is one of the clone
  forth : (pg : ℕ) → EntriesTo m n src row pg
  forth pg i a b =
      let k = more.new (record { page = (entry_at m i).page.0; frame = (entry_at m i).frame.0 }) (single_in m.entries src i a) in
      (k.at, (ap (λ (x : Entry). x.owner) k.is, (ap (λ (x : Entry). x.page.0) k.is ∙ b, ap (λ (x : Entry). x.frame.0) k.is ∙ k.right)))

  -- .. and the other way
  back : (pg : ℕ) → EntriesTo n m row src pg
  back pg j a b = go (row_now j)
    where
      go : Row j → (i : ℕ) × (((entry_at m i).owner ≡ src + 1) × (((entry_at m i).page.0 ≡ pg) × ((entry_at m i).frame.0 ≡ (entry_at n j).frame.0)))
      go (inl z) = absurd (unowned j (ap (λ (x : Entry). x.owner) (sym z) ∙ a))
      go (inr z) =
          let e = single_of m.entries src z.page z.among in
          (e.at, (e.owner, (e.page ∙ ap (λ (x : Entry). x.page.0) (sym z.is) ∙ b, e.frame ∙ sym z.right ∙ ap (λ (x : Entry). x.frame.0) (sym z.is))))

  alike : Alike m n src row
  alike = record { look = ap looks new_row; ranged = ap (λ (x : Region). x.ranged) new_row; range = ap (λ (x : Region). x.range) new_row }

  frame : (pg : ℕ) → frame_by (backing n q u pg) ≡ frame_by (backing m p t pg)
  frame pg = frame_alike m n o n_owing p t q u used alike pg (forth pg) (back pg)

  -- ---- the source's process loses no right outside the region

  abbrev demoted : Machine
  demoted = sharing.m1 nothing m o p t q listed opened free clear

  abbrev which : Mapping → Bool
  which = sharing.which nothing m o p t q listed opened free clear

  abbrev less : Mapping → ℕ
  less = sharing.less nothing m o p t q listed opened free clear

  ready_mapped : (b : Bool) → mapped_of (ready b) p ≡ mapped_of demoted p
  unfolding hold with_backings mapped_of
  ready_mapped true = refl
  ready_mapped false = refl

  abbrev table : List Mapping
  table = sharing.table nothing m o p t q listed opened free clear

  n_mapped : mapped_of n p ≡ table
  n_mapped = books_mapped p (share_books row pages added) ∙ go (is_ranged r) refl ∙ reads
    where
      reads : mapped_of demoted p ≡ table
      reads =
          let same = length_remap which less (mapped_of m p) in
          let few = few_pages nothing m o p p_low in
          let l = p_low in
          let a = o.sizes.processes in
          let b = o.sizes.mapped in
          mapped_put m p (omega arith) table (omega arith) (omega arith)

      go : (b : Bool) → is_ranged r ≡ b → mapped_of added p ≡ mapped_of demoted p
      go b e =
          let owing = sharing.ready_owing nothing m o p t q listed opened free clear b e in
          ap (λ (y : Machine). mapped_of y p) (added_is b e) ∙ add_mapped _ (ready b) owing q (new_region b e).opened (new_region b e).slot (shared_row r) p ∙ ready_mapped b

  pub share_rights : (c v : ℕ) → home_slot s p c ≡ Some v → v ≢ t → page_at n p c ≡ page_at m p c
  share_rights c v home other = ap (λ l. translate l (c / 4096)) n_mapped ∙ translate_remap which less (c / 4096) (mapped_of m p) apart
    where
      here : Home m p v (c / 4096)
      here = home_at m o p (c / 4096) v home

      outside : (b : Bool) → contains r (page_start (c / 4096)) ≡ b → b ≡ false
      outside false e = refl
      outside true e = absurd (other (home_one m o p p_low (page_start (c / 4096)) v t here.listed listed here.inside e))

      apart : (x : Mapping) → x.page.0 ≡ c / 4096 → (not (is_shared r) && maps_in r x) ≡ false
      apart x e = go (not (is_shared r))
        where
          out : maps_in r x ≡ false
          out = ap (λ (j : ℕ). contains r (page_start j)) e ∙ outside (contains r (page_start (c / 4096))) refl

          go : (b : Bool) → (b && maps_in r x) ≡ false
          go true = out
          go false = refl

  -- ---- a backing that an entry of another region holds alone

  module _ (i f : ℕ) (taken : (entry_at m i).owner ≢ 0) (other : (entry_at m i).owner ≢ src + 1) (frame : (entry_at m i).frame.0 ≡ f) (lone : (backing_at m f).holders ≡ 1) where
    added_backing : (b : Bool) → is_ranged r ≡ b → backing_at (add_region (cond b (hold (demote m p t) r.range.0) (demote m p t)) q (shared_row r)) f ≡ backing_at m f
    unfolding demote with_mapped hold with_backings add_region with_order
    added_backing false e = refl
    added_backing true e = get_or-set_other m.backings r.range.0 f _ no_backing (λ z. no_range_else m o f lone i src taken frame used (eqb-true r.ranged 1 e) (sym z))

    pub share_lone : backing_at n f ≡ backing_at m f
    unfolding share_range
    share_lone = shared_backing row pages added f apart ∙ added_backing (is_ranged r) refl
      where
        apart : (h : Held) → In h pages → h.frame ≢ f
        apart h k z =
            let e = single_of m.entries src h k in
            let own = e.owner in
            no_entry_else m o f lone i e.at taken frame (λ y. other (ap (λ (j : ℕ). (entry_at m j).owner) y ∙ own)) (λ y. omega arith) (e.frame ∙ z)

  module _ (c : ℕ) (home : home_slot s p c ≡ Some t) where
    there : home_slot (with_machine s n) q c ≡ Some u
    there = at_home n n_owing q (c / 4096) u (record { low = q_low; listed = own; inside = ap (λ (x : Region). contains x (page_start (c / 4096))) new_row ∙ (home_at m o p (c / 4096) t home).inside })

    pub share_home : home_slot (with_machine s n) q c ≡ Some u
    share_home = there

    pub share_inherited : Inherited s (with_machine s n) p q c
    share_inherited = record {
      object = λ z. ap (frame_in (with_machine s n) q (c / 4096)) there ∙ frame (c / 4096) ∙ ap (frame_in s p (c / 4096)) (sym home);
      seen = seen_as s (with_machine s n) p t q u c home there alike.look refl share_beside.files (record { some = λ f e. (f, (frame (c / 4096) ∙ e, refl)); none = λ e. frame (c / 4096) ∙ e });
      kind = kind_as s (with_machine s n) p t q u c home there alike.look;
    }

  pub share_cloned : (region_at m p t).fork ≢ 1 → Cloned s (with_machine s n) p t q
  share_cloned fork = record {
    facts = beside_facts s (with_machine s n) o n_owing q u share_beside;
    shown = shown;
    new = λ c v none some. shown c (beside_source s (with_machine s n) o n_owing q u share_beside p t listed alike.look c v none some);
    lone = λ i f taken other frame single. share_lone i f taken other frame (ap (λ (b : Backing). b.holders) single);
    rights = share_rights;
    eager = λ e. absurd (fork e);
  }
    where
      shown : (c : ℕ) → home_slot s p c ≡ Some t → Shown s (with_machine s n) p q c
      shown c h = record { inherited = share_inherited c h; slot = u; home = share_home c h }
