-- A backing's row replaced: claimed, held once more, let go. The holders that are owed change with it.
use Rattle.std.specs.Prelude.{◌≡◌, ◌≢◌, Bool, true, false, cond, ℕ, ◌+◌, ◌-◌, ◌≤◌, ◌<◌, length, set, eqb, leb}
use Rattle.std.proofs.Math.Path.{refl, ap, subst}
use Rattle.std.proofs.Common.{sym, ◌∙◌, arith, length-set, eq-eqb, ne_eqb, leb-true, leb-false}
use Rattle.std.proofs.Math.Logic.{inl, inr}
use Rattle.model.specs.declared.Backing.{Backing}
use Rattle.model.specs.declared.Mapping.{Mapping}
use Rattle.model.specs.Machine.{Machine, region_at, row_of, order_of, mapped_of, no_backing}
use Rattle.model.specs.Backing.{backing_at, pool_of, with_backings, claim, hold, let_go}
use Rattle.model.specs.Sound.{Flagged, Hold, R2, holders_of, holds}
use Rattle.laws.specs.SetLaws.{each_row}
use Rattle.laws.specs.In.{In}
use Rattle.keeping.specs.Owing.{row_at, entry_at, Backs, Placed, Owing, Holds}
use Rattle.model.specs.Holders.{entry_hold, range_hold, one_if}
use Rattle.keeping.specs.HomesLaws.{held_some, hold_used}
use Rattle.keeping.specs.AlikeLaws.{alike_same, fits_as, entry_as, placed_as, sizes_as}
use Rattle.keeping.specs.PagesKept.{base_used}
use Rattle.model.specs.RuleUseLaws.{backing_there, backing_within}

-- one holder more is owed of the backing at f
abbrev pub more : ℕ → (ℕ → ℕ) → ℕ → ℕ
more f d g = d g + one_if (eqb f g)

more_here : (f : ℕ) (d : ℕ → ℕ) → more f d f ≡ d f + 1
more_here f d = ap (λ (b : Bool). d f + one_if b) (eq-eqb f f refl)

more_else : (f : ℕ) (d : ℕ → ℕ) (g : ℕ) → g ≢ f → more f d g ≡ d g
more_else f d g z = ap (λ (b : Bool). d g + one_if b) (ne_eqb f g (λ e. z (sym e))) ∙ omega arith

-- the hold of a backing
pub record Held (m : Machine) (f : ℕ) : Type 0 where
  pub by : Hold
  pub holds : Holds m by
  pub frame : by.frame ≡ f

module _ (d : ℕ → ℕ) (m : Machine) (o : Owing d m) where
  -- what backs a page holds the backing: the entry, or the range
  pub base_held_by : (row pg base fr : ℕ) → ((row_at m row).kind ≢ 0) → Backs m row pg base fr → Held m base
  base_held_by row pg base fr u (inl b) =
      let own = b.owner in
      record { by = entry_hold (entry_at m b.at); holds = inl (record { row = b.at; taken = λ z. omega arith; is = refl }); frame = b.start }
  base_held_by row pg base fr u (inr b) = record {
    by = range_hold (row_at m row);
    holds = inr (record { row = row; taken = u; ranged = b.ranged; is = refl });
    frame = b.start;
  }

  -- what is held is in use
  pub held_used : (f : ℕ) → Held m f → (backing_at m f).len ≢ 0
  held_used f k z = hold_used m o.regions o.entries k.by k.holds (ap (λ (x : ℕ). (backing_at m x).len) k.frame ∙ z)

  -- the next backing starts past the end of one in use
  pub backing_apart : (f g : ℕ) → f < g → (backing_at m f).len ≢ 0 → (backing_at m g).len ≢ 0 → f + (backing_at m f).len ≤ g
  backing_apart f g l u v = o.pool.apart f (backing_there m f u) u g (backing_there m g v) l v

-- a row that the other backings leave room for
pub record Fits (m : Machine) (f n : ℕ) : Type 0 where
  pub inside : f + n ≤ m.frame_count
  pub below : (j : ℕ) → j < f → (backing_at m j).len ≢ 0 → j + (backing_at m j).len ≤ f
  pub above : (j : ℕ) → f < j → (backing_at m j).len ≢ 0 → f + n ≤ j

-- the row put: what it has to be
pub record Put (d e : ℕ → ℕ) (m : Machine) (f : ℕ) (b : Backing) : Type 0 where
  pub low : f < m.frame_count
  pub fits : b.len ≢ 0 → Fits m f b.len
  pub same : Held m f → b.len ≡ (backing_at m f).len
  pub count : b.holders ≡ holders_of m f + e f
  pub others : (g : ℕ) → g ≢ f → e g ≡ d g
  pub some : b.len ≢ 0 → 1 ≤ b.holders
  pub none : b.len ≡ 0 → b.holders ≡ 0
  pub flags : (p : ℕ) → p < 8 → (x : Mapping) → In x (mapped_of m p) → (k : Placed m p x) → k.base ≡ f
      → Flagged (region_at m p k.slot) x.flags.0 b.holders

module _ (d e : ℕ → ℕ) (m : Machine) (o : Owing d m) (f : ℕ) (b : Backing) (put : Put d e m f b) where
  abbrev n : Machine
  n = with_backings m (set m.backings f b)

  there : f < length m.backings
  there = let a = o.sizes.backings in let c = o.sizes.frame_count in let l = put.low in omega arith

  each : (P : ℕ → Backing → Type 0) → P f b → ((g : ℕ) → g ≢ f → P g (backing_at m g)) → (g : ℕ) → P g (backing_at n g)
  unfolding with_backings
  each P here else = each_row m.backings f b no_backing there P here else

  len_same : (g : ℕ) → Held m g → (backing_at n g).len ≡ (backing_at m g).len
  len_same = each (λ g x. Held m g → x.len ≡ (backing_at m g).len) put.same (λ g z h. refl)

  counts : (g : ℕ) → holders_of n g ≡ holders_of m g
  unfolding with_backings holders_of holds
  counts g = refl

  pool : R2 n
  unfolding with_backings pool_of
  pool = record {
    apart = λ i h u g k l v. each (λ i x. x.len ≢ 0 → (g : ℕ) → i < g → (backing_at n g).len ≢ 0 → i + x.len ≤ g)
        (λ u. each (λ g y. f < g → y.len ≢ 0 → f + b.len ≤ g) (λ l v. absurd (omega arith)) (λ g z l v. (put.fits u).above g l v))
        (λ i z u. each (λ g y. i < g → y.len ≢ 0 → i + (backing_at m i).len ≤ g) (λ l v. (put.fits v).below i l u) (λ g y l v. backing_apart d m o i g l u v))
        i u g l v;
    within = λ i h. each (λ i x. x.len ≢ 0 → i + x.len ≤ m.frame_count) (λ u. (put.fits u).inside) (λ i z u. backing_within m i u o.pool) i;
    free = refl;
    next = refl;
  }

  mapped : (p : ℕ) → p < 8 → (x : Mapping) → In x (mapped_of m p) → Placed n p x
  unfolding with_backings order_of
  mapped p h x i =
      let k = o.mapped p h x i in
      let used = (o.listed p k.slot h k.listed).1 in
      let by = base_held_by d m o (row_of p k.slot) x.page.0 k.base x.frame.0 used k.backed in
      placed_as m n p x k k.listed (λ j. refl) (alike_same _) (len_same k.base by)
      (each (λ g y. k.base ≡ g → Flagged (region_at m p k.slot) x.flags.0 y.holders) (put.flags p h x i k)
      (λ g z q. subst (λ (j : ℕ). Flagged (region_at m p k.slot) x.flags.0 (backing_at m j).holders) q k.flagged) k.base refl)

  -- a backing replaced by a row as above, where d is owed before and e after
  pub put_kept : Owing e n
  unfolding with_backings order_of mapped_of
  put_kept = record {
    sizes = sizes_as m n refl refl refl refl refl (length-set m.backings f b) refl refl refl o.sizes;
    pool = pool;
    counted = λ g. each (λ g x. x.holders ≡ holders_of m g + e g) put.count
        (λ g z. o.counted g ∙ ap (λ (k : ℕ). holders_of m g + k) (sym (put.others g z))) g ∙ ap (λ (k : ℕ). k + e g) (sym (counts g));
    held = each (λ g x. x.len ≢ 0 → 1 ≤ x.holders) put.some (λ g z. o.held g);
    unheld = each (λ g x. x.len ≡ 0 → x.holders ≡ 0) put.none (λ g z. o.unheld g);
    apart = o.apart;
    regions = λ i. fits_as m n _ refl
        (λ u q. len_same _ (record { by = range_hold (row_at m i); holds = inr (record { row = i; taken = u; ranged = q; is = refl }); frame = refl }))
        (o.regions i);
    entries = λ i. entry_as m n _ (λ u. alike_same _) (λ u. len_same _
        (record { by = entry_hold (entry_at m i); holds = inl (record { row = i; taken = u; is = refl }); frame = refl })) (o.entries i);
    once_a_page = o.once_a_page;
    one_page = o.one_page;
    closed = o.closed;
    empty = o.empty;
    arenas = o.arenas;
    listed = o.listed;
    once = o.once;
    pinned = o.pinned;
    order_rest = o.order_rest;
    paged = λ p h. let k = o.paged p h in record { rising = k.rising; free = k.free };
    mapped = mapped;
  }

-- ---- claim

-- n frames from f on that are in no backing
pub record FreeRun (m : Machine) (f n : ℕ) : Type 0 where
  pub some : 1 ≤ n
  pub inside : f + n ≤ m.frame_count
  pub free : (x : ℕ) → f ≤ x → x < f + n → (j : ℕ) → j ≤ x → j + (backing_at m j).len ≤ x

-- a free run claimed: its one holder is owed
pub claim_kept : (d : ℕ → ℕ) (m : Machine) → Owing d m → (f n : ℕ) → FreeRun m f n → Owing (more f d) (claim m f n)
unfolding claim
claim_kept d m o f n run = put_kept d (more f d) m o f (record { len = n; holders = 1 }) (record {
  low = let s = run.some in let i = run.inside in omega arith;
  fits = λ u. record { inside = run.inside; below = λ j l v. let s = run.some in run.free f (omega arith) (omega arith) j (omega arith); above = above };
  same = λ k. absurd (held_used d m o f k unused);
  count = let a = o.counted f in let b = o.unheld f unused in let c = more_here f d in omega arith;
  others = more_else f d;
  some = λ u. omega arith;
  none = λ z. let s = run.some in absurd (omega arith);
  flags = λ p h x i k q. absurd (base_used d m o (row_of p k.slot) x.page.0 k.base x.frame.0 k.backed
      (ap (λ (g : ℕ). (backing_at m g).len) q ∙ unused));
})
  where
    unused : (backing_at m f).len ≡ 0
    unused = let s = run.some in let a = run.free f (omega arith) (omega arith) f (omega arith) in omega arith

    above : (j : ℕ) → f < j → (backing_at m j).len ≢ 0 → f + n ≤ j
    above j l v = go (leb (f + n) j) refl
      where
        go : (t : Bool) → leb (f + n) j ≡ t → f + n ≤ j
        go true q = leb-true (f + n) j q
        go false q = let k = leb-false (f + n) j q in let a = run.free j (omega arith) k j (omega arith) in absurd (v (omega arith))

-- ---- hold: where no private mapping of it is writable

-- held once more: that holder is owed
pub hold_kept :
    (d : ℕ → ℕ) (m : Machine) → Owing d m → (f : ℕ) → (backing_at m f).len ≢ 0
    → ((p : ℕ) → p < 8 → (x : Mapping) → In x (mapped_of m p) → (k : Placed m p x) → k.base ≡ f
    → Flagged (region_at m p k.slot) x.flags.0 ((backing_at m f).holders + 1))
    → Owing (more f d) (hold m f)
unfolding hold
hold_kept d m o f used flags = put_kept d (more f d) m o f (record { len = (backing_at m f).len; holders = (backing_at m f).holders + 1 }) (record {
  low = let a = backing_within m f used o.pool in omega (arith, used);
  fits = λ u. record {
    inside = backing_within m f used o.pool;
    below = λ j l v. backing_apart d m o j f l v used;
    above = λ j l v. backing_apart d m o f j l used v;
  };
  same = λ k. refl;
  count = let a = o.counted f in let c = more_here f d in omega arith;
  others = more_else f d;
  some = λ u. omega arith;
  none = λ z. absurd (used z);
  flags = flags;
})

-- ---- let go: a holder that is owed

module _ (d : ℕ → ℕ) (m : Machine) (f : ℕ) (o : Owing (more f d) m) where
  owed : (backing_at m f).holders ≡ holders_of m f + d f + 1
  owed = let a = o.counted f in let b = more_here f d in omega arith

  owed_used : (backing_at m f).len ≢ 0
  owed_used z = let a = owed in let b = o.unheld f z in omega arith

  -- a holder less is owed; with the last the backing is free
  pub let_go_kept : Owing d (let_go m f)
  unfolding let_go
  let_go_kept = go (leb (backing_at m f).holders 1) refl
    where
      low : f < m.frame_count
      low = let a = backing_within m f owed_used o.pool in let u = owed_used in omega (arith, u)

      go : (t : Bool) → leb (backing_at m f).holders 1 ≡ t
          → Owing d (cond t (with_backings m (set m.backings f no_backing))
          (with_backings m (set m.backings f (record { len = (backing_at m f).len; holders = (backing_at m f).holders - 1 }))))
      go true q =
          let few = leb-true (backing_at m f).holders 1 q in
          let a = owed in
          put_kept (more f d) d m o f no_backing (record {
            low = low;
            fits = λ u. absurd (u refl);
            same = λ k. let some = held_some m f k.by k.holds k.frame in absurd (omega arith);
            count = omega arith;
            others = λ g z. sym (more_else f d g z);
            some = λ u. absurd (u refl);
            none = λ z. refl;
            flags = λ p h x i k e. let used = (o.listed p k.slot h k.listed).1 in
                let by = base_held_by (more f d) m o (row_of p k.slot) x.page.0 k.base x.frame.0 used k.backed in
                let some = held_some m f by.by by.holds (by.frame ∙ e) in absurd (omega arith);
          })
      go false q =
          let many = leb-false (backing_at m f).holders 1 q in
          let a = owed in
          put_kept (more f d) d m o f (record { len = (backing_at m f).len; holders = (backing_at m f).holders - 1 }) (record {
            low = low;
            fits = λ u. record {
              inside = backing_within m f owed_used o.pool;
              below = λ j l v. backing_apart (more f d) m o j f l v owed_used;
              above = λ j l v. backing_apart (more f d) m o f j l owed_used v;
            };
            same = λ k. refl;
            count = omega arith;
            others = λ g z. sym (more_else f d g z);
            some = λ u. omega arith;
            none = λ z. absurd (owed_used z);
            flags = λ p h x i k e. let g = subst (λ (j : ℕ). Flagged (region_at m p k.slot) x.flags.0 (backing_at m j).holders) e k.flagged in record {
              private = g.private;
              lone = λ z w. let one = g.lone z w in absurd (omega arith);
              shared = g.shared;
            };
          })
