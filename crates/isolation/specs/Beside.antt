-- A state beside which a region was put in a free row, with entries in free rows: everyone sees what he saw.
use Rattle.std.specs.Prelude.{◌≡◌, refl, ◌⊎◌, ◌≢◌, true, ℕ, ◌+◌, ◌*◌, ◌/◌, ◌%◌, ◌<◌, get_or, Option, Some, None}
use Rattle.std.proofs.Common.{ap, sym, subst, ◌∙◌, inl, inr, arith}
use Rattle.laws.specs.ResultLaws.{none_not_some}
use Rattle.model.specs.declared.Region.{Region}
use Rattle.model.specs.Machine.{Machine, State, region_at, row_of, order_of}
use Rattle.model.specs.Lookup.{contains}
use Rattle.model.specs.Paging.{page_start}
use Rattle.model.specs.Posix.{home_slot, frame_in, frame_at}
use Rattle.laws.specs.In.{In}
use Rattle.keeping.specs.Owing.{Owing, Backs, row_at, entry_at}
use Rattle.isolation.specs.ViewLaws.{home_at, region_home, home_region, view_none, kind_none, looks}
use Rattle.isolation.specs.Undisturbed.{Undisturbed, Same, same_refl, same_then, same_undisturbed, still_home, frame_undisturbed}

-- a row of the entries is what it was, or it was free and is the new region's
abbrev pub RowNow : State → State → (q u i : ℕ) → Type 0
RowNow s after q u i = (entry_at after.machine i ≡ entry_at s.machine i) ⊎ (((entry_at s.machine i).owner ≡ 0) × ((entry_at after.machine i).owner ≡ row_of q u + 1))

pub record Beside (s after : State) (q u : ℕ) : Type 0 where
  pub bytes : after.bytes ≡ s.bytes
  pub files : after.machine.files ≡ s.machine.files
  pub small : u < 64
  pub free : (region_at s.machine q u).kind ≡ 0
  pub rows : (j : ℕ) → j ≢ row_of q u → row_at after.machine j ≡ row_at s.machine j
  pub old : (i : ℕ) → RowNow s after q u i
  pub frames : (i pg base fr : ℕ) → Backs s.machine i pg base fr → (o : ℕ) → o < 4096 → get_or after.frames (fr * 4096 + o) 0 ≡ get_or s.frames (fr * 4096 + o) 0
  pub listed : (x v : ℕ) → In v (order_of s.machine x) → In v (order_of after.machine x)
  pub others : (x : ℕ) → x ≢ q → order_of after.machine x ≡ order_of s.machine x
  pub own : (v : ℕ) → In v (order_of after.machine q) → In v (order_of s.machine q) ⊎ (v ≡ u)

-- seen as it was, through the same frame
pub record Left (s after : State) (x c : ℕ) : Type 0 where
  pub same : Same s after x c
  pub frame : frame_at after x c ≡ frame_at s x c

pub left_refl : (s : State) (x c : ℕ) → Left s s x c
left_refl s x c = record { same = same_refl s x c; frame = refl }

pub left_then : {a b c : State} {x y : ℕ} → Left a b x y → Left b c x y → Left a c x y
left_then k l = record { same = same_then k.same l.same; frame = l.frame ∙ k.frame }

-- what is at home stays there, and is left as it was
pub record Stay (s after : State) (x c v : ℕ) : Type 0 where
  pub left : Left s after x c
  pub home : home_slot after x c ≡ Some v

module _ {d e : ℕ → ℕ} (s after : State) (o : Owing d s.machine) (k : Owing e after.machine) (q u : ℕ) (beside : Beside s after q u) where
  abbrev m : Machine
  m = s.machine

  abbrev n : Machine
  n = after.machine

  beside_un : (x c v : ℕ) → home_slot s x c ≡ Some v → Undisturbed s after x v (c / 4096) (c % 4096)
  beside_un x c v e =
      let h = home_at m o x (c / 4096) v e in
      let used = (o.listed x v h.low h.listed).1 in
      let other : row_of x v ≢ row_of q u = λ z. used (ap (λ (j : ℕ). (row_at m j).kind) z ∙ beside.free) in
      let row = beside.rows (row_of x v) other in
      record {
        bytes = beside.bytes;
        files = beside.files;
        look = ap looks row;
        ranged = ap (λ (r : Region). r.ranged) row;
        range = ap (λ (r : Region). r.range) row;
        forth = λ i a b. forth i a (beside.old i);
        back = λ i a b. back other i a (beside.old i);
        frames = λ base fr b. beside.frames (row_of x v) (c / 4096) base fr b (c % 4096) (omega arith);
        listed = beside.listed x v h.listed;
      }
    where
      forth : (i : ℕ) → (entry_at m i).owner ≡ row_of x v + 1 → RowNow s after q u i → entry_at n i ≡ entry_at m i
      forth i a (inl z) = z
      forth i a (inr z) = let z0 = z.0 in absurd (omega arith)

      back : row_of x v ≢ row_of q u → (i : ℕ) → (entry_at n i).owner ≡ row_of x v + 1 → RowNow s after q u i → entry_at n i ≡ entry_at m i
      back other i a (inl z) = z
      back other i a (inr z) = let z1 = z.1 in absurd (other (omega arith))

  pub beside_stay : (x c v : ℕ) → home_slot s x c ≡ Some v → Stay s after x c v
  beside_stay x c v e =
      let w = beside_un x c v e in
      let h = still_home s after o k x c v e w in
      let frame : frame_at after x c ≡ frame_at s x c = ap (frame_in after x (c / 4096)) h ∙ frame_undisturbed s after o k x c v e w ∙ ap (frame_in s x (c / 4096)) (sym e) in
      record { left = record { same = same_undisturbed s after o k x c v e w; frame = frame }; home = h }

  -- a new home in the process itself is the new region
  pub beside_new : (c v : ℕ) → home_slot s q c ≡ None → home_slot after q c ≡ Some v → contains (region_at n q u) (page_start (c / 4096)) ≡ true
  beside_new c v none some = go (beside.own v h.1.0)
    where
      h : (q < 8) × (In v (order_of n q) × (contains (region_at n q v) (page_start (c / 4096)) ≡ true))
      h = region_home n k q (page_start (c / 4096)) v some

      go : In v (order_of m q) ⊎ (v ≡ u) → contains (region_at n q u) (page_start (c / 4096)) ≡ true
      go (inr z) = subst (λ (j : ℕ). contains (region_at n q j) (page_start (c / 4096)) ≡ true) z h.1.1
      go (inl i) =
          let used = (o.listed q v h.0 i).1 in
          let row = beside.rows (row_of q v) (λ z. used (ap (λ (j : ℕ). (row_at m j).kind) z ∙ beside.free)) in
          absurd (none_not_some (sym none ∙ home_region m o q (page_start (c / 4096)) v i (subst (λ (r : Region). contains r (page_start (c / 4096)) ≡ true) row h.1.1)))

  -- another process: what has no home has none still
  pub beside_other : (x c : ℕ) → x ≢ q → Left s after x c
  beside_other x c z = go (home_slot s x c) refl
    where
      none : home_slot s x c ≡ None → (y : Option ℕ) → home_slot after x c ≡ y → home_slot after x c ≡ None
      none e None f = f
      none e (Some v) f =
          let h = region_home n k x (page_start (c / 4096)) v f in
          let i : In v (order_of m x) = subst (λ l. In v l) (beside.others x z) h.1.0 in
          let low = (o.listed x v h.0 i).0 in
          let us = beside.small in
          let row = beside.rows (row_of x v) (λ y. z (omega arith)) in
          absurd (none_not_some (sym e ∙ home_region m o x (page_start (c / 4096)) v i (subst (λ (r : Region). contains r (page_start (c / 4096)) ≡ true) row h.1.1)))

      go : (y : Option ℕ) → home_slot s x c ≡ y → Left s after x c
      go (Some v) e = (beside_stay x c v e).left
      go None e =
          let f = none e (home_slot after x c) refl in
          record {
            same = record { seen = view_none after x c f ∙ sym (view_none s x c e); kind = kind_none after x c f ∙ sym (kind_none s x c e) };
            frame = ap (frame_in after x (c / 4096)) f ∙ ap (frame_in s x (c / 4096)) (sym e);
          }
