-- Entries added to a region one after the other, each in a free row: what a clone that shares and one that copies have in common.
use Rattle.std.specs.Prelude.{◌≡◌, refl, ◌⊎◌, List, [], ◌∷◌, ℕ, ◌<◌, length, get_or, set}
use Rattle.std.proofs.Common.{ap, sym, subst, ◌∙◌, inl, inr, arith, get_or-set_same}
use Rattle.model.specs.declared.Entry.{Entry}
use Rattle.model.specs.Machine.{Machine, no_entry}
use Rattle.model.specs.Clone.{Held}
use Rattle.laws.specs.In.{In}
use Rattle.keeping.specs.Owing.{entry_at}
use Rattle.keeping.specs.EntriesKept.{entry_on}
use Rattle.isolation.specs.Quiet.{set_either}

-- a row that was free has an entry of the region now: for a page of the list, with a frame that F says is right for it
pub record NewOne (F : Held → ℕ → Type 0) (m n : Machine) (row : ℕ) (l : List Held) (i : ℕ) : Type 0 where
  pub free : (entry_at m i).owner ≡ 0
  pub page : Held
  pub among : In page l
  pub frame : ℕ
  pub is : entry_at n i ≡ entry_on row page.page frame
  pub right : F page frame

-- the entry of a page of the list
pub record Entered (F : Held → ℕ → Type 0) (n : Machine) (row : ℕ) (h : Held) : Type 0 where
  pub at : ℕ
  pub frame : ℕ
  pub is : entry_at n at ≡ entry_on row h.page frame
  pub right : F h frame

-- every row is what it was or new, and every page of the list has its entry
pub record Grown (F : Held → ℕ → Type 0) (row : ℕ) (l : List Held) (m n : Machine) : Type 0 where
  pub old : (i : ℕ) → (entry_at n i ≡ entry_at m i) ⊎ NewOne F m n row l i
  pub new : (h : Held) → In h l → Entered F n row h

pub grown_none : (F : Held → ℕ → Type 0) (row : ℕ) (m : Machine) → Grown F row [] m m
grown_none F row m = record { old = λ i. inl refl; new = λ h i. absurd i }

-- one page more: its entry in the free row `at`, then the rest. What is right for the rest in the machine between (G) is right from the start (F)
module _ (F G : Held → ℕ → Type 0) (row : ℕ) (h : Held) (l : List Held) (m next n : Machine) (at f : ℕ) (put : next.entries ≡ set m.entries at (entry_on row h.page f)) (inside : at < length m.entries) (free : (entry_at m at).owner ≡ 0)
    (here : F h f) (still : (x : Held) → In x l → (g : ℕ) → G x g → F x g) where
  abbrev e : Entry
  e = entry_on row h.page f

  row_at : (i : ℕ) → (entry_at next i ≡ entry_at m i) ⊎ ((i ≡ at) × (entry_at next i ≡ e))
  row_at i = subst (λ t. (get_or t i no_entry ≡ entry_at m i) ⊎ ((i ≡ at) × (get_or t i no_entry ≡ e))) (sym put) (set_either m.entries at e i no_entry)

  put_at : entry_at next at ≡ e
  put_at = ap (λ t. get_or t at no_entry) put ∙ get_or-set_same m.entries at e no_entry inside

  pub grown_more : Grown G row l next n → Grown F row (h ∷ l) m n
  grown_more k = record { old = λ i. old i (k.old i) (row_at i); new = new }
    where
      old : (i : ℕ) → (entry_at n i ≡ entry_at next i) ⊎ NewOne G next n row l i → (entry_at next i ≡ entry_at m i) ⊎ ((i ≡ at) × (entry_at next i ≡ e)) → (entry_at n i ≡ entry_at m i) ⊎ NewOne F m n row (h ∷ l) i
      old i (inl a) (inl b) = inl (a ∙ b)
      old i (inl a) (inr b) = inr (record { free = ap (λ (j : ℕ). (entry_at m j).owner) b.0 ∙ free; page = h; among = inl refl; frame = f; is = a ∙ b.1; right = here })
      old i (inr a) (inl b) = inr (record { free = ap (λ (x : Entry). x.owner) (sym b) ∙ a.free; page = a.page; among = inr a.among; frame = a.frame; is = a.is; right = still a.page a.among a.frame a.right })
      old i (inr a) (inr b) = let z = a.free in let y = ap (λ (x : Entry). x.owner) b.1 in absurd (omega arith)

      first : (entry_at n at ≡ entry_at next at) ⊎ NewOne G next n row l at → entry_at n at ≡ e
      first (inl a) = a ∙ put_at
      first (inr a) = let z = a.free in let y = ap (λ (x : Entry). x.owner) put_at in absurd (omega arith)

      new : (x : Held) → In x (h ∷ l) → Entered F n row x
      new x (inl z) = subst (Entered F n row) (sym z) (record { at = at; frame = f; is = first (k.old at); right = here })
      new x (inr i) = let c = k.new x i in record { at = c.at; frame = c.frame; is = c.is; right = still x i c.frame c.right }
