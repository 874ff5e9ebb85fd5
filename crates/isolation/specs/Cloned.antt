-- What the clone of a region into a process leaves alone, and what the clone's process then sees: of a clone that shares and of one that copies.
use Rattle.std.specs.Prelude.{◌≡◌, refl, ◌≢◌, ℕ, ◌+◌, ◌/◌, ◌<◌, Some, None}
use Rattle.std.proofs.Common.{ap, sym, ◌∙◌, inl, inr}
use Rattle.model.specs.declared.Region.{Region}
use Rattle.model.specs.declared.Entry.{Entry}
use Rattle.model.specs.Machine.{State, region_at, row_of, order_of, mapped_of}
use Rattle.model.specs.Lookup.{contains}
use Rattle.model.specs.Paging.{page_start}
use Rattle.model.specs.Backing.{backing_at}
use Rattle.model.specs.Access.{page_at}
use Rattle.model.specs.Sound.{Used}
use Rattle.model.specs.Posix.{home_slot, frame_at, Inherited}
use Rattle.laws.specs.In.{In}
use Rattle.keeping.specs.Owing.{Owing, row_at, entry_at}
use Rattle.isolation.specs.ViewLaws.{home_region, looks}
use Rattle.isolation.specs.LoneHolder.{OwnEntry}
use Rattle.isolation.specs.Beside.{RowNow, Beside, Left, left_refl, left_then, Stay, beside_stay, beside_other, beside_new}

-- what a clone into q leaves alone
pub record Facts (s after : State) (q : ℕ) : Type 0 where
  pub stay : (x c v : ℕ) → home_slot s x c ≡ Some v → Stay s after x c v
  pub others : (x c : ℕ) → x ≢ q → Left s after x c
  pub rows : (j : ℕ) → Used (row_at s.machine j) → row_at after.machine j ≡ row_at s.machine j
  pub entries : (i : ℕ) → (entry_at s.machine i).owner ≢ 0 → entry_at after.machine i ≡ entry_at s.machine i

pub facts_none : (s : State) (q : ℕ) → Facts s s q
facts_none s q = record { stay = λ x c v e. record { left = left_refl s x c; home = e }; others = λ x c z. left_refl s x c; rows = λ j u. refl; entries = λ i u. refl }

pub facts_then : {a b c : State} {q : ℕ} → Facts a b q → Facts b c q → Facts a c q
facts_then f g = record {
  stay = λ x c v e. let k = f.stay x c v e in let l = g.stay x c v k.home in record { left = left_then k.left l.left; home = l.home };
  others = λ x c z. left_then (f.others x c z) (g.others x c z);
  rows = λ j u. let k = f.rows j u in g.rows j (λ z. u (ap (λ (r : Region). r.kind) (sym k) ∙ z)) ∙ k;
  entries = λ i u. let k = f.entries i u in g.entries i (λ z. u (ap (λ (e : Entry). e.owner) (sym k) ∙ z)) ∙ k;
}

-- what the clone sees
pub record Shown (s after : State) (p q c : ℕ) : Type 0 where
  pub inherited : Inherited s after p q c
  pub slot : ℕ
  pub home : home_slot after q c ≡ Some slot

-- what is shown stays so where the clone's page is left alone, and was so where the source's was
pub shown_then : {s u after : State} {p q c : ℕ} → (k : Shown s u p q c) → Stay u after q c k.slot → Shown s after p q c
shown_then k b = record {
  inherited = record {
    seen = b.left.same.seen ∙ k.inherited.seen;
    kind = b.left.same.kind ∙ k.inherited.kind;
    object = λ z. b.left.frame ∙ k.inherited.object z;
  };
  slot = k.slot;
  home = b.home;
}

pub left_inherited : {s u after : State} {p q c : ℕ} → Left s u p c → Inherited u after p q c → Inherited s after p q c
left_inherited a b = record { seen = b.seen ∙ a.same.seen; kind = b.kind ∙ a.same.kind; object = λ z. b.object (a.same.kind ∙ z) ∙ a.frame }

-- the clone of a CopyEager region, in a slot that was free: no mapping is another, and a page that was backed has an entry of its own
pub record Eager (s after : State) (p t q : ℕ) : Type 0 where
  pub slot : ℕ
  pub small : slot < 64
  pub free : (region_at s.machine q slot).kind ≡ 0
  pub home : (c : ℕ) → home_slot s p c ≡ Some t → home_slot after q c ≡ Some slot
  pub mapped : (x : ℕ) → mapped_of after.machine x ≡ mapped_of s.machine x
  pub own : (c f : ℕ) → home_slot s p c ≡ Some t → frame_at s p c ≡ Some f → OwnEntry after.machine q slot (c / 4096)
  pub bare : (c : ℕ) → home_slot s p c ≡ Some t → frame_at s p c ≡ None → frame_at after q c ≡ None

-- a backing that an entry of another region than the source holds alone
abbrev pub LoneStays : State → State → ℕ → ℕ → Type 0
LoneStays s after p t =
    (i f : ℕ) → (entry_at s.machine i).owner ≢ 0 → (entry_at s.machine i).owner ≢ row_of p t + 1 → (entry_at s.machine i).frame.0 ≡ f
    → backing_at s.machine f ≡ record { len = 1; holders = 1 } → backing_at after.machine f ≡ backing_at s.machine f

-- what the source's process has mapped outside the region translates as it did
abbrev pub RightsStay : State → State → ℕ → ℕ → Type 0
RightsStay s after p t = (c v : ℕ) → home_slot s p c ≡ Some v → v ≢ t → page_at after.machine p c ≡ page_at s.machine p c

-- slot t of process p cloned into q
pub record Cloned (s after : State) (p t q : ℕ) : Type 0 where
  pub facts : Facts s after q
  pub shown : (c : ℕ) → home_slot s p c ≡ Some t → Shown s after p q c
  -- a home that q had not shows what p shows there
  pub new : (c v : ℕ) → home_slot s q c ≡ None → home_slot after q c ≡ Some v → Shown s after p q c
  pub lone : LoneStays s after p t
  pub rights : RightsStay s after p t
  pub eager : (region_at s.machine p t).fork ≡ 1 → Eager s after p t q

-- ---- from a region put beside the others

module _ {d e : ℕ → ℕ} (s after : State) (o : Owing d s.machine) (k : Owing e after.machine) (q u : ℕ) (beside : Beside s after q u) where
  pub beside_facts : Facts s after q
  beside_facts = record {
    stay = beside_stay s after o k q u beside;
    others = beside_other s after o k q u beside;
    rows = λ j used. beside.rows j (λ z. used (ap (λ (i : ℕ). (row_at s.machine i).kind) z ∙ beside.free));
    entries = λ i taken. entry i taken (beside.old i);
  }
    where
      entry : (i : ℕ) → (entry_at s.machine i).owner ≢ 0 → RowNow s after q u i → entry_at after.machine i ≡ entry_at s.machine i
      entry i taken (inl z) = z
      entry i taken (inr z) = absurd (taken z.0)

  -- a new home in q lies in the new region, which covers what the source covers
  pub beside_source : (p t : ℕ) → In t (order_of s.machine p) → looks (region_at after.machine q u) ≡ looks (region_at s.machine p t) → (c v : ℕ) → home_slot s q c ≡ None → home_slot after q c ≡ Some v → home_slot s p c ≡ Some t
  beside_source p t listed look c v none some =
      let inside = beside_new s after o k q u beside c v none some in
      home_region s.machine o p (page_start (c / 4096)) t listed (ap (λ (r : Region). contains r (page_start (c / 4096))) (sym look) ∙ inside)
