-- Laws of `Accounted`: a sound machine is, and a hold given up keeps it so.
use Rattle.std.specs.Prelude.{◌≡◌, refl, ◌≢◌, Bool, true, false, List, ℕ, ◌+◌, ◌-◌, ◌≤◌, ◌<◌, length, set, eqb}
use Rattle.std.proofs.Math.Path.{ap}
use Rattle.std.proofs.Common.{sym, subst, ◌∙◌, arith, get_or-set_same, get_or-set_other, eqb-true, eq-eqb, ne_eqb}
use Rattle.std.proofs.lemmas.Bool.{false≢true, lt-leb, not-false}
use Rattle.std.proofs.Math.Decide.{ℕ_discrete}
use Rattle.std.proofs.Math.ListN.{get_or}
use Rattle.model.specs.declared.Backing.{Backing}
use Rattle.model.specs.declared.Pool.{Pool}
use Rattle.model.specs.declared.Region.{Region}
use Rattle.model.specs.Machine.{Machine, State, no_backing, no_region}
use Rattle.model.specs.Lookup.{is_used, is_ranged}
use Rattle.model.specs.Backing.{backing_at, with_backings, let_go}
use Rattle.model.specs.Sound.{Sound, R2, holders_of}
use Rattle.backing.specs.Ready.{Ready}
use Rattle.backing.specs.BackingLaws.{used_low}
use Rattle.model.specs.HolderLaws.{holders_split}
use Rattle.model.specs.Holders.{one_if, entries_hold, ranges_hold}
use Rattle.remove.specs.Accounted.{FreeUnranged, Accounted}
use Rattle.keeping.specs.Owing.{Owing, nothing}
use Rattle.keeping.specs.OwingOfSound.{sound_owing}
use Rattle.keeping.specs.LetGoLaws.{less_held, let_go_is}

-- ---- the tables that holders and pool are read from

pub ready_same : (m n : Machine) → n.backings ≡ m.backings → n.pool ≡ m.pool → n.frame_count ≡ m.frame_count → Ready m → Ready n
ready_same m n b q c ready = subst Ready (sym same) (record { r2 = record { apart = r2.apart; within = r2.within; free = r2.free; next = r2.next }; rows = ready.rows; few = ready.few })
  where
    r2 : R2 m
    r2 = ready.r2

    with_pool : List Backing → Pool → ℕ → Machine
    with_pool l o k = record { processes = n.processes; regions = n.regions; order = n.order; mapped = n.mapped; entries = n.entries; backings = l; pool = o; files = n.files; frame_count = k; file_count = n.file_count }

    same : n ≡ with_pool m.backings m.pool m.frame_count
    same = λ t. with_pool (b t) (q t) (c t)

pub record SameHolds (m n : Machine) : Type 0 where
  pub regions : n.regions ≡ m.regions
  pub entries : n.entries ≡ m.entries
  pub backings : n.backings ≡ m.backings
  pub pool : n.pool ≡ m.pool
  pub frame_count : n.frame_count ≡ m.frame_count

pub accounted_same : (m n : Machine) → SameHolds m n → Accounted m → Accounted n
accounted_same m n k a = record { ready = ready_same m n k.backings k.pool k.frame_count a.ready; held = held; slots = subst FreeUnranged (sym k.regions) a.slots }
  where
    counted : (f : ℕ) → holders_of n f ≡ holders_of m f
    counted f = holders_split n f ∙ (λ t. entries_hold (k.entries t) f + ranges_hold (k.regions t) f) ∙ sym (holders_split m f)

    held : (f : ℕ) → 1 ≤ holders_of n f → ((backing_at n f).len ≢ 0) × (holders_of n f ≤ (backing_at n f).holders)
    held f h =
        let same = counted f in
        let had = a.held f (omega arith) in
        let row : backing_at n f ≡ backing_at m f = ap (λ t. get_or t f no_backing) k.backings in
        let most = had.1 in
        let len = ap (λ (b : Backing). b.len) row in
        let count = ap (λ (b : Backing). b.holders) row in
        (λ z. had.0 (sym len ∙ z), omega arith)

-- ---- a machine that keeps the rules is, whatever holders it owes; so a sound one is

pub owing_accounted : (d : ℕ → ℕ) (m : Machine) → Owing d m → Accounted m
owing_accounted d m o = record {
  ready = record { r2 = o.pool; rows = o.sizes.backings; few = o.sizes.frame_count };
  held = held;
  slots = slots;
}
  where
    held : (f : ℕ) → 1 ≤ holders_of m f → ((backing_at m f).len ≢ 0) × (holders_of m f ≤ (backing_at m f).holders)
    held f h = let counted = o.counted f in (λ z. let none = o.unheld f z in absurd (omega arith), omega arith)

    slots : FreeUnranged m.regions
    slots i e = go (is_used (get_or m.regions i no_region)) refl
      where
        go : (b : Bool) → is_used (get_or m.regions i no_region) ≡ b → b ≡ true
        go true q = refl
        go false q = absurd (false≢true (ap (λ (r : Region). is_ranged r) (sym ((o.regions i).free (eqb-true _ 0 (not-false _ q)))) ∙ e))

pub sound_accounted : (s : State) → Sound s → Accounted s.machine
sound_accounted s sound = owing_accounted nothing s.machine (sound_owing s sound)

-- ---- a holder less

-- one hold of the backing at f is given up, and with it one holder
module _ (m : Machine) (a : Accounted m) (f : ℕ) where
  module _ (n : Machine) (less : (g : ℕ) → holders_of m g ≡ holders_of n g + one_if (eqb f g)) where
    pub given_used : (backing_at m f).len ≢ 0
    given_used = let one_less = less f in let same : one_if (eqb f f) ≡ 1 = ap (λ (b : Bool). one_if b) (eq-eqb f f refl) in (a.held f (omega arith)).0

    pub given_held : n.backings ≡ (let_go m f).backings → (g : ℕ) → 1 ≤ holders_of n g → ((backing_at n g).len ≢ 0) × (holders_of n g ≤ (backing_at n g).holders)
    unfolding with_backings
    given_held e g h = go (ℕ_discrete g f)
      where
        row : (i : ℕ) → backing_at n i ≡ get_or (set m.backings f (less_held (backing_at m f))) i no_backing
        row i = ap (λ t. get_or t i no_backing) (e ∙ ap (λ (x : Machine). x.backings) (let_go_is m f))

        low : f < length m.backings
        low = let l = used_low m a.ready f given_used in let k = a.ready.rows in let s = a.ready.few in omega arith

        fewer : (b : Backing) → 2 ≤ b.holders → less_held b ≡ record { len = b.len; holders = b.holders - 1 }
        fewer b k = rw (lt-leb b.holders 1 (omega arith))

        go : Dec (g ≡ f) → ((backing_at n g).len ≢ 0) × (holders_of n g ≤ (backing_at n g).holders)
        go (no p) =
            let same = row g ∙ get_or-set_other m.backings f g (less_held (backing_at m f)) no_backing p in
            let none : one_if (eqb f g) ≡ 0 = ap (λ (b : Bool). one_if b) (ne_eqb f g (λ q. p (sym q))) in
            let so = less g in
            let had = a.held g (omega arith) in
            let len = ap (λ (b : Backing). b.len) same in
            let count = ap (λ (b : Backing). b.holders) same in
            let most = had.1 in
            (λ z. had.0 (sym len ∙ z), omega arith)
        go (yes p) =
            let one_less : one_if (eqb f g) ≡ 1 = ap (λ (b : Bool). one_if b) (eq-eqb f g (sym p)) in
            let so = less g in
            let had = a.held g (omega arith) in
            let most = had.1 in
            let here : backing_at m g ≡ backing_at m f = ap (λ (i : ℕ). backing_at m i) p in
            let holders_here = ap (λ (b : Backing). b.holders) here in
            let same = row g ∙ ap (λ (i : ℕ). get_or (set m.backings f (less_held (backing_at m f))) i no_backing) p ∙ get_or-set_same m.backings f (less_held (backing_at m f)) no_backing low ∙ fewer (backing_at m f) (omega arith) in
            let len = ap (λ (b : Backing). b.len) same in
            let count = ap (λ (b : Backing). b.holders) same in
            (λ z. had.0 (ap (λ (b : Backing). b.len) here ∙ sym len ∙ z), omega arith)
