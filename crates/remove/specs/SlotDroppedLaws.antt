-- Laws of `SlotDropped`: the rest of a region dropped, its range let go and its slot free; with the entries, the whole region.
use Rattle.std.specs.Prelude.{◌≡◌, ◌≢◌, Bool, ◌&&◌, cond, List, map, ℕ, ◌+◌, ◌*◌, ◌<◌, length, get_or, set, eqb}
use Rattle.std.proofs.Math.Path.{refl}
use Rattle.std.proofs.Common.{ap, sym, subst, ◌∙◌, arith, get_or-set_same, get_or-set_other, eq-eqb, ne_eqb}
use Rattle.std.proofs.Math.Bool.{true, false}
use Rattle.std.proofs.lemmas.Bool.{false≢true}
use Rattle.std.proofs.Math.Decide.{ℕ_discrete}
use Rattle.model.specs.declared.Entry.{Entry}
use Rattle.model.specs.declared.Region.{Region}
use Rattle.model.specs.Machine.{Machine, no_region, with_entries, with_regions, with_region, region_at, row_of}
use Rattle.model.specs.Lookup.{is_used, is_ranged}
use Rattle.model.specs.Backing.{backing_at, let_go}
use Rattle.model.specs.Sound.{holders_of}
use Rattle.model.specs.Remove.{frames_of, drop_region}
use Rattle.model.specs.MachineLaws.{books_let_go}
use Rattle.backing.specs.BackingLaws.{release_ready}
use Rattle.model.specs.HolderLaws.{holders_split}
use Rattle.model.specs.Holders.{one_if, weight, range_taken, range_hold, entries_hold, ranges_hold}
use Rattle.remove.specs.HoldingLaws.{holding_set}
use Rattle.remove.specs.Accounted.{FreeUnranged, Accounted}
use Rattle.remove.specs.AccountedLaws.{ready_same, given_used, given_held}
use Rattle.remove.specs.Dropped.{LetsGo, all_gone, freed, entries_dropped, EntriesGone}
use Rattle.remove.specs.DroppedLaws.{let_go_kept, gone_books}
use Rattle.keeping.specs.LetGoLaws.{let_go_entries}
use Rattle.remove.specs.SlotDropped.{range_gone, RangeGone, slot_dropped, SlotGone, Dropped}

pub range_goes : (m : Machine) (r : Region) (n : Machine) → r.ranged ≡ 1 → LetsGo m r.range.0 n → RangeGone m r n
unfolding range_gone
range_goes m r n e gone ready used = let p = eq-eqb r.ranged 1 e in gone ready (used p) ∙ sym (ap (λ (b : Bool). cond b (let_go m r.range.0) m) p)

pub range_stays : (m : Machine) (r : Region) → (r.ranged ≡ 1 → ⊥) → RangeGone m r m
unfolding range_gone
range_stays m r e ready used = sym (ap (λ (b : Bool). cond b (let_go m r.range.0) m) (ne_eqb r.ranged 1 e))

module _ (m : Machine) (row : ℕ) (inside : row < length m.regions) (a : Accounted m) where
  abbrev r : Region
  r = get_or m.regions row no_region

  -- free slots have no range
  slots_set : (t : List Region) → t ≡ set m.regions row no_region → FreeUnranged t
  slots_set t e i p = go (ℕ_discrete i row)
    where
      there : get_or t i no_region ≡ get_or (set m.regions row no_region) i no_region
      there = ap (λ l. get_or l i no_region) e

      go : Dec (i ≡ row) → is_used (get_or t i no_region) ≡ true
      go (yes q) = absurd (false≢true (sym (ap (λ (x : Region). is_ranged x) (there ∙ ap (λ (k : ℕ). get_or (set m.regions row no_region) k no_region) q ∙ get_or-set_same m.regions row no_region no_region inside)) ∙ p))
      go (no q) =
          let same = there ∙ get_or-set_other m.regions row i no_region no_region q in
          ap (λ (x : Region). is_used x) same ∙ a.slots i (ap (λ (x : Region). is_ranged x) (sym same) ∙ p)

  -- the holds once the slot is free
  slot_holds : (n : Machine) → n.entries ≡ m.entries → n.regions ≡ set m.regions row no_region → (g : ℕ) → holders_of m g ≡ holders_of n g + weight range_taken range_hold g r
  slot_holds n e f g =
      let was = holders_split m g in
      let is = holders_split n g in
      let entries = ap (λ t. entries_hold t g) e in
      let ranges = ap (λ t. ranges_hold t g) f in
      let less = holding_set range_taken range_hold g no_region refl m.regions row inside in
      omega arith

  abbrev with_slot_free : Machine → Machine
  with_slot_free n = with_regions n (set n.regions row no_region)

  module _ (ranged : is_ranged r ≡ true) where
    range_less : (g : ℕ) → holders_of m g ≡ holders_of (with_slot_free (let_go m r.range.0)) g + one_if (eqb r.range.0 g)
    range_less g =
        let taken : range_taken r ≡ true = rw (ranged, a.slots row ranged) refl in
        let one : weight range_taken range_hold g r ≡ one_if (eqb r.range.0 g) = ap (λ (b : Bool). cond b (one_if (eqb r.range.0 g)) 0) taken in
        let all = slot_holds (with_slot_free (let_go m r.range.0)) (let_go_kept m r.range.0) (ap (λ t. set t row no_region) (books_let_go m r.range.0).regions) g in
        omega arith

    pub range_used : (backing_at m r.range.0).len ≢ 0
    range_used = given_used m a r.range.0 (with_slot_free (let_go m r.range.0)) range_less

    ranged_accounted : Accounted (with_slot_free (let_go m r.range.0))
    ranged_accounted =
        record {
          ready = ready_same (let_go m r.range.0) (with_slot_free (let_go m r.range.0)) refl refl refl (release_ready m a.ready r.range.0 range_used);
          held = given_held m a r.range.0 (with_slot_free (let_go m r.range.0)) range_less refl;
          slots = slots_set (with_slot_free (let_go m r.range.0)).regions (ap (λ t. set t row no_region) (books_let_go m r.range.0).regions);
        }

  unranged_accounted : is_ranged r ≡ false → Accounted (with_slot_free m)
  unranged_accounted e =
      record {
        ready = ready_same m (with_slot_free m) refl refl refl a.ready;
        held = λ g h. let so = same g in let had = a.held g (omega arith) in let most = had.1 in (had.0, omega arith);
        slots = slots_set (with_slot_free m).regions refl;
      }
    where
      never : (b c : Bool) → c ≡ false → (b && c) ≡ false
      never true c q = q
      never false c q = refl

      same : (g : ℕ) → holders_of m g ≡ holders_of (with_slot_free m) g
      same g =
          let light : weight range_taken range_hold g r ≡ 0 = ap (λ (b : Bool). cond b (one_if (eqb r.range.0 g)) 0) (never (is_used r) (is_ranged r) e) in
          let all = slot_holds (with_slot_free m) refl refl g in
          omega arith

  slot_accounted : Accounted (slot_dropped m row)
  unfolding slot_dropped range_gone
  slot_accounted = go (is_ranged r) refl
    where
      go : (b : Bool) → is_ranged r ≡ b → Accounted (with_slot_free (cond b (let_go m r.range.0) m))
      go true e = ranged_accounted e
      go false e = unranged_accounted e

pub slot_goes :
    (m : Machine) (row : ℕ) (x : Region)
    → x ≡ get_or m.regions row no_region
    → row < length m.regions
    → (n : Machine)
    → RangeGone m x n
    → (o : Machine) (z : Region)
    → z ≡ no_region
    → o ≡ with_regions n (set n.regions row z)
    → SlotGone m row o
unfolding slot_dropped
slot_goes m row x read inside n gone o z none put a =
    put ∙ ap (λ (y : Region). with_regions n (set n.regions row y)) none ∙ ap (λ (k : Machine). with_regions k (set k.regions row no_region)) (subst (λ (y : Region). RangeGone m y n) read gone a.ready (range_used m row inside a))

-- ---- the whole region

drop_parts : (m : Machine) (p s : ℕ) → slot_dropped (entries_dropped m (row_of p s)) (row_of p s) ≡ drop_region m p s
unfolding slot_dropped range_gone entries_dropped drop_region
drop_parts m p s = ap (λ (x : Region). slot_free (range_gone (with_entries pages l) x)) same ∙ go (is_ranged (region_at m p s))
  where
    pages : Machine
    pages = all_gone (frames_of m.entries (row_of p s)) m

    l : List Entry
    l = map (freed (row_of p s)) m.entries

    slot_free : Machine → Machine
    slot_free n = with_regions n (set n.regions (row_of p s) no_region)

    same : get_or pages.regions (row_of p s) no_region ≡ region_at m p s
    same = ap (λ t. get_or t (row_of p s) no_region) (gone_books m (frames_of m.entries (row_of p s))).regions

    go : (b : Bool) → slot_free (cond b (let_go (with_entries pages l) (region_at m p s).range.0) (with_entries pages l)) ≡ with_region (with_entries (cond b (let_go pages (region_at m p s).range.0) pages) l) p s no_region
    go true = ap (λ (n : Machine). slot_free n) (let_go_entries pages l (region_at m p s).range.0)
    go false = refl

pub region_drops : (m : Machine) (p s : ℕ) (n : Machine) → EntriesGone m (p * 64 + s) n → p * 64 + s < length n.regions → (o : Machine) → SlotGone n (p * 64 + s) o → Dropped m p s o
region_drops m p s n entries inside o slot a =
    let b = entries a in
    let is = slot b.0 in
    (subst Accounted (sym is) (slot_accounted n (p * 64 + s) inside b.0), is ∙ ap (λ (k : Machine). slot_dropped k (p * 64 + s)) b.1 ∙ drop_parts m p s)
