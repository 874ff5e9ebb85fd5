-- What a rule says of a row in one machine it says in another, where what it reads is the same.
use Rattle.std.specs.Prelude.{◌≡◌, refl, ◌≢◌, ◌&&◌, ℕ, ◌+◌, ◌-◌, ◌/◌, ◌≤◌, ◌<◌, length, ltb, leb}
use Rattle.std.proofs.Common.{ap, sym, subst, ◌∙◌, inl, inr}
use Rattle.model.specs.declared.Region.{Region}
use Rattle.model.specs.declared.Mapping.{Mapping}
use Rattle.model.specs.declared.Entry.{Entry}
use Rattle.model.specs.Machine.{Machine, region_at, row_of, order_of, most_pins}
use Rattle.model.specs.Lookup.{contains}
use Rattle.model.specs.Paging.{page_start, mapping}
use Rattle.model.specs.Backing.{backing_at}
use Rattle.model.specs.Pins.{with_pins}
use Rattle.model.specs.Sound.{Used, Flagged, Limits, RegionFits, Entered, EntryFits, R2}
use Rattle.laws.specs.In.{In}
use Rattle.keeping.specs.Owing.{row_at, entry_at, Backs, Placed, Sizes, ByEntry}

-- regions that differ in flags, pins and the like alone
pub record Alike (r x : Region) : Type 0 where
  pub kind : x.kind ≡ r.kind
  pub start : x.start ≡ r.start
  pub size : x.size ≡ r.size
  pub ranged : x.ranged ≡ r.ranged
  pub range : x.range ≡ r.range

-- a region is like itself
pub alike_same : (r : Region) → Alike r r
alike_same r = record { kind = refl; start = refl; size = refl; ranged = refl; range = refl }

pub alike_is : {r x : Region} → x ≡ r → Alike r x
alike_is e = record {
  kind = ap (λ (y : Region). y.kind) e;
  start = ap (λ (y : Region). y.start) e;
  size = ap (λ (y : Region). y.size) e;
  ranged = ap (λ (y : Region). y.ranged) e;
  range = ap (λ (y : Region). y.range) e;
}

-- they have the same addresses
pub contains_as : {r x : Region} (a : ℕ) → Alike r x → contains x a ≡ contains r a
contains_as a k = λ t. leb (k.start t).0 a && ltb a ((k.start t).0 + k.size t)

-- with another count of pins
pub limits_pins : (m : Machine) (r : Region) (n : ℕ) → n ≤ most_pins → Limits m r → Limits m (with_pins r n)
limits_pins m r n few k = record {
  kind = k.kind;
  aligned_start = k.aligned_start;
  some = k.some;
  user_segment = k.user_segment;
  pins = few;
  flags = k.flags;
  shared = k.shared;
  file = k.file;
  no_file = k.no_file;
  ranged = k.ranged;
  unranged = k.unranged;
}

-- tables as long as before
pub sizes_as : (m n : Machine) → length n.processes ≡ length m.processes → length n.regions ≡ length m.regions
    → length n.order ≡ length m.order → length n.mapped ≡ length m.mapped → length n.entries ≡ length m.entries
    → length n.backings ≡ length m.backings → n.files ≡ m.files → n.frame_count ≡ m.frame_count → n.file_count ≡ m.file_count → Sizes m → Sizes n
sizes_as m n processes regions order mapped entries backings files frames count z = record {
  processes = processes ∙ z.processes;
  regions = regions ∙ z.regions;
  order = order ∙ z.order;
  mapped = mapped ∙ z.mapped;
  entries = entries ∙ z.entries;
  backings = backings ∙ z.backings;
  files = ap length files ∙ z.files;
  frame_count = subst (λ (k : ℕ). k ≤ 256) (sym frames) z.frame_count;
  file_count = subst (λ (k : ℕ). k ≤ 8) (sym count) z.file_count;
}

-- from one machine to another
module _ (m n : Machine) where
  -- a region's limits, where the files' count and its range's length are the same
  pub limits_as : (r : Region) → n.file_count ≡ m.file_count → (r.ranged ≡ 1 → (backing_at n r.range.0).len ≡ (backing_at m r.range.0).len) → Limits m r
      → Limits n r
  limits_as r files len k = record {
    kind = k.kind;
    aligned_start = k.aligned_start;
    some = k.some;
    user_segment = k.user_segment;
    pins = k.pins;
    flags = k.flags;
    shared = k.shared;
    file = λ e. let f = k.file e in (subst (λ (c : ℕ). r.file < c) (sym files) f.0, f.1);
    no_file = k.no_file;
    ranged = λ e. len e ∙ k.ranged e;
    unranged = k.unranged;
  }

  -- a slot's row
  pub fits_as : (r : Region) → n.file_count ≡ m.file_count → (Used r → r.ranged ≡ 1 → (backing_at n r.range.0).len ≡ (backing_at m r.range.0).len)
      → RegionFits m r → RegionFits n r
  fits_as r files len fits = record { free = fits.free; used = λ u. limits_as r files (len u) (fits.used u) }

  -- an entry's row
  pub entry_as : (e : Entry) → (e.owner ≢ 0 → Alike (row_at m (e.owner - 1)) (row_at n (e.owner - 1)))
      → (e.owner ≢ 0 → (backing_at n e.frame.0).len ≡ (backing_at m e.frame.0).len) → EntryFits m e → EntryFits n e
  entry_as e rows len fits = record { free = fits.free; used = λ u. entered (rows u) (len u) (fits.used u) }
    where
      entered : Alike (row_at m (e.owner - 1)) (row_at n (e.owner - 1)) → (backing_at n e.frame.0).len ≡ (backing_at m e.frame.0).len → Entered m e
          → Entered n e
      entered a l k = record {
        owner = k.owner;
        used = λ z. k.used (sym a.kind ∙ z);
        unshared = λ z. k.unshared (sym a.kind ∙ z);
        inside = contains_as (page_start e.page.0) a ∙ k.inside;
        frame = l ∙ k.frame;
      }

  -- an entry that is as it was backs what it backed
  pub by_entry_as : (row pg base fr : ℕ) (b : ByEntry m row pg base fr) → entry_at n b.at ≡ entry_at m b.at → ByEntry n row pg base fr
  by_entry_as row pg base fr b same = record {
    at = b.at;
    owner = ap (λ (e : Entry). e.owner) same ∙ b.owner;
    page = ap (λ (e : Entry). e.page.0) same ∙ b.page;
    start = ap (λ (e : Entry). e.frame.0) same ∙ b.start;
    frame = b.frame;
  }

  -- what backs a page
  pub backs_as : (row pg base fr : ℕ) → ((i : ℕ) → entry_at n i ≡ entry_at m i) → Alike (row_at m row) (row_at n row)
      → (backing_at n base).len ≡ (backing_at m base).len → Backs m row pg base fr → Backs n row pg base fr
  backs_as row pg base fr entries a len (inl b) = inl (by_entry_as row pg base fr b (entries b.at))
  backs_as row pg base fr entries a len (inr b) =
      inr (record {
        none = λ i u z. b.none i (ap (λ (e : Entry). e.owner) (sym (entries i)) ∙ u) (ap (λ (e : Entry). e.page.0) (sym (entries i)) ∙ z);
        ranged = a.ranged ∙ b.ranged;
        start = ap (λ y. y.0) a.range ∙ b.start;
        within = subst (λ (k : ℕ). pg - (row_at n row).start.0 / 4096 < k) (sym len)
            (subst (λ y. pg - y.0 / 4096 < (backing_at m base).len) (sym a.start) b.within);
        frame = b.frame ∙ ap (λ y. base + (pg - y.0 / 4096)) (sym a.start);
      })

  -- a mapping keeps its place, with these flags
  pub placed_with : (fl p : ℕ) (x : Mapping) (k : Placed m p x) → In k.slot (order_of n p) → ((i : ℕ) → entry_at n i ≡ entry_at m i)
      → Alike (region_at m p k.slot) (region_at n p k.slot) → (backing_at n k.base).len ≡ (backing_at m k.base).len
      → Flagged (region_at n p k.slot) fl (backing_at n k.base).holders → Placed n p (mapping x.page.0 x.frame.0 fl)
  placed_with fl p x k listed entries a len flagged = record {
    slot = k.slot;
    listed = listed;
    inside = contains_as (page_start x.page.0) a ∙ k.inside;
    base = k.base;
    backed = backs_as (row_of p k.slot) x.page.0 k.base x.frame.0 entries a len k.backed;
    flagged = flagged;
  }

  -- with its own flags
  pub placed_as : (p : ℕ) (x : Mapping) (k : Placed m p x) → In k.slot (order_of n p) → ((i : ℕ) → entry_at n i ≡ entry_at m i)
      → Alike (region_at m p k.slot) (region_at n p k.slot) → (backing_at n k.base).len ≡ (backing_at m k.base).len
      → Flagged (region_at n p k.slot) x.flags.0 (backing_at n k.base).holders → Placed n p x
  placed_as p x k listed entries a len flagged = placed_with x.flags.0 p x k listed entries a len flagged

  -- R2 reads backings, pool and the number of frames alone
  pub pool_as : n.backings ≡ m.backings → n.pool ≡ m.pool → n.frame_count ≡ m.frame_count → R2 m → R2 n
  pool_as b q c r = subst R2 same (record { apart = r.apart; within = r.within; free = r.free; next = r.next })
    where
      with_pool : Machine
      with_pool = record {
        processes = n.processes;
        regions = n.regions;
        order = n.order;
        mapped = n.mapped;
        entries = n.entries;
        backings = m.backings;
        pool = m.pool;
        files = n.files;
        frame_count = m.frame_count;
        file_count = n.file_count;
      }

      same : with_pool ≡ n
      same = λ t. record {
        processes = n.processes;
        regions = n.regions;
        order = n.order;
        mapped = n.mapped;
        entries = n.entries;
        backings = sym b t;
        pool = sym q t;
        files = n.files;
        frame_count = sym c t;
        file_count = n.file_count;
      }
