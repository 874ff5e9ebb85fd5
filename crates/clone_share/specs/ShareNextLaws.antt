-- Laws of sharing entries: one, and the walk through all of them in page order.
use Rattle.std.specs.Prelude.{◌≡◌, ◌≢◌, ℕ, ◌+◌, ◌-◌, ◌^◌, ◌≤◌, ◌<◌, get_or, set, Option, Some, None}
use Rattle.std.proofs.Math.Path.{refl, ap, sym, subst}
use Rattle.std.proofs.Common.{◌∙◌, get_or-set_same, get_or-set_other}
use Rattle.std.proofs.Math.Bool.{true}
use Rattle.std.proofs.lemmas.Bool.{false≢true}
use mathlib.Core.List.{List, [], ◌∷◌}
use native.Mathlib.Omega.{arith}
use Rattle.std.proofs.Math.Decide.{ℕ_discrete}
use Rattle.std.proofs.Math.ListN.{length}
use Rattle.model.specs.declared.Entry.{Entry}
use Rattle.model.specs.declared.Backing.{Backing}
use Rattle.laws.specs.Lists.{each}
use Rattle.model.specs.Machine.{Machine, no_entry, no_backing}
use Rattle.model.specs.Lookup.{is_found, row_found, free_entry, free_entries}
use Rattle.model.specs.Backing.{backing_at, hold, add_entry, with_backings}
use Rattle.model.specs.Clone.{Held, single_pages, share_entry}
use Rattle.lookup.specs.NextEntry.{next_entry, held_of}
use Rattle.lookup.specs.NextEntryLaws.{next_found}
use Rattle.lookup.specs.WalkLaws.{pages_from, walk_start, walk_on, walk_end}
use Rattle.backing.specs.BackingSteps.{held}
use Rattle.backing.specs.Ready.{Ready}
use Rattle.backing.specs.BackingLaws.{hold_is, hold_ready, used_low}
use Rattle.clone_pages.specs.Alike.{Alike}
use Rattle.clone_pages.specs.AlikeLaws.{alike_first, next_alike}
use Rattle.clone_share.specs.EntryPutLaws.{entry_found, ready_entries, added_fewer, added_alike}
use Rattle.clone_share.specs.ShareNext.{next_at, CanShare, ShareNext, Shareable}

-- ---- one entry

module _ (m : Machine) (f : ℕ) (k : CanShare m f) where
  pub share_low : f < 256
  share_low = let low = used_low m k.ready f k.used in let few = k.ready.few in omega arith

  pub share_found : (a : Machine) → a ≡ held m f → is_found (free_entry a) ≡ true
  unfolding free_entry hold with_backings
  share_found a e = ap (λ (x : Machine). is_found (free_entry x)) (e ∙ hold_is m k.ready f k.used k.few) ∙ kept
    where
      kept : is_found (free_entry (hold m f)) ≡ true
      kept = entry_found m k.entry

  pub shares_entry : (row page : ℕ) (a : Machine) → a ≡ held m f → (n : Machine) → n ≡ add_entry a row page f → n ≡ share_entry row (record { page = page; frame = f }) m
  unfolding share_entry
  shares_entry row page a e n put = put ∙ ap (λ (x : Machine). add_entry x row page f) (e ∙ hold_is m k.ready f k.used k.few)

-- those below page k are shared, and `left` are to come
pub record Going (m n : Machine) (src row k left : ℕ) : Type 0 where
  pub alike : Alike m.entries n.entries src
  pub ready : Ready n
  pub used : (f : ℕ) → (backing_at m f).len ≢ 0 → (backing_at n f).len ≢ 0
  pub holders : (f : ℕ) → (backing_at n f).holders + left < 2 ^ 64
  pub count : left ≡ length (pages_from k m.entries src)
  pub room : left ≤ free_entries n
  pub rest : each (share_entry row) (pages_from k m.entries src) n ≡ each (share_entry row) (single_pages m.entries src) m

entries_held : (n : Machine) (f : ℕ) → n.entries ≡ (hold n f).entries
unfolding hold with_backings
entries_held n f = refl

free_held : (n : Machine) (f : ℕ) → free_entries (hold n f) ≡ free_entries n
unfolding hold with_backings free_entries
free_held n f = refl

module _ (m : Machine) (src row : ℕ) (s : Shareable m src row) where
  pub going_first : (n : ℕ) → n ≡ length (single_pages m.entries src) → n ≤ 512 → Going m m src row 0 n
  going_first n e most =
      let start = walk_start m.entries src in
      let room = s.left in
      record { alike = alike_first m.entries src; ready = s.ready; used = λ f u. u; holders = λ f. let h = s.holders f in omega arith; count = e ∙ ap (λ l. length l) (sym start); room = omega arith; rest = ap (λ l. each (share_entry row) l m) start }

  module _ (n : Machine) (k left : ℕ) (g : Going m n src row k left) (some : 0 < left) where
    -- the row of the next entry
    record Next : Type 0 where
      at : ℕ
      found : next_entry m.entries src k ≡ Some at
      here : next_entry n.entries src k ≡ Some at
      owner : (get_or m.entries at no_entry).owner ≡ src + 1
      same : next_at n.entries src k ≡ get_or m.entries at no_entry

    next : Next
    next = go (next_entry m.entries src k) refl
      where
        go : (f : Option ℕ) → next_entry m.entries src k ≡ f → Next
        go None e = let none = ap (λ l. length l) (walk_end m.entries src k e) in let size = g.count in absurd (omega arith)
        go (Some j) e =
            let here = next_alike m.entries n.entries src k g.alike ∙ e in
            let owner = (next_found m.entries src k j e).1.owned in
            record { at = j; found = e; here = here; owner = owner; same = ap (λ (x : Option ℕ). get_or n.entries (row_found x) no_entry) here ∙ g.alike.same j owner }

    abbrev e : Entry
    e = get_or m.entries next.at no_entry

    e_used : (backing_at n e.frame.0).len ≢ 0
    e_used = g.used e.frame.0 (s.frames next.at next.owner)

    pub going_next : ShareNext n src k
    going_next =
        let low = g.holders (next_at n.entries src k).frame.0 in
        let room = g.room in
        let page = s.pages next.at next.owner in
        let same = ap (λ (x : Entry). x.page.0) next.same in
        record { found = ap (λ (x : Option ℕ). is_found x) next.here; can = record { ready = g.ready; used = subst (λ (x : Entry). (backing_at n x.frame.0).len ≢ 0) (sym next.same) e_used; few = omega arith; entry = omega arith }; page = omega arith }

    -- ---- one shared

    abbrev f : ℕ
    f = e.frame.0

    abbrev o : Machine
    o = share_entry row (held_of e) n

    there : f < length n.backings
    there = let low = used_low n g.ready f e_used in let few = g.ready.few in let rows = g.ready.rows in omega arith

    row_of : (h : ℕ) → backing_at o h ≡ get_or (set n.backings f (record { len = (backing_at n f).len; holders = (backing_at n f).holders + 1 })) h no_backing
    unfolding share_entry add_entry hold with_backings
    row_of h = refl

    new_row : (h : ℕ) → ((backing_at o h).len ≡ (backing_at n h).len) × ((backing_at o h).holders ≤ (backing_at n h).holders + 1)
    new_row h = go (ℕ_discrete h f)
      where
        go : Dec (h ≡ f) → ((backing_at o h).len ≡ (backing_at n h).len) × ((backing_at o h).holders ≤ (backing_at n h).holders + 1)
        go (yes z) =
            let same = row_of h ∙ ap (λ (i : ℕ). get_or (set n.backings f (record { len = (backing_at n f).len; holders = (backing_at n f).holders + 1 })) i no_backing) z ∙ get_or-set_same n.backings f _ no_backing there in
            let len = ap (λ (b : Backing). b.len) same in
            let count = ap (λ (b : Backing). b.holders) same in
            let was = ap (λ (i : ℕ). (backing_at n i).holders) z in
            (len ∙ ap (λ (i : ℕ). (backing_at n i).len) (sym z), omega arith)
        go (no z) =
            let same = row_of h ∙ get_or-set_other n.backings f h _ no_backing z in
            let count = ap (λ (b : Backing). b.holders) same in
            (ap (λ (b : Backing). b.len) same, omega arith)

    one_left : 1 ≤ free_entries (hold n f)
    unfolding hold with_backings free_entries
    one_left = let room = g.room in omega arith

    o_ready : Ready o
    unfolding share_entry add_entry
    o_ready = ready_entries (hold n f) _ (hold_ready n g.ready f e_used)

    o_alike : Alike m.entries o.entries src
    unfolding share_entry
    o_alike = added_alike (hold n f) row e.page.0 f one_left m.entries src s.other held_alike
      where
        held_alike : Alike m.entries (hold n f).entries src
        held_alike = subst (λ t. Alike m.entries t src) (entries_held n f) g.alike

    o_fewer : free_entries o + 1 ≡ free_entries n
    unfolding share_entry
    o_fewer = added_fewer (hold n f) row e.page.0 f one_left ∙ free_held n f

    walked : pages_from k m.entries src ≡ held_of e ∷ pages_from (e.page.0 + 1) m.entries src
    walked = walk_on m.entries src k s.once next.at next.found

    going_one : Going m o src row (e.page.0 + 1) (left - 1)
    unfolding each
    going_one =
        let size = g.count ∙ ap (λ l. length l) walked in
        let fewer = o_fewer in
        let room = g.room in
        record {
          alike = o_alike;
          ready = o_ready;
          used = λ h u z. g.used h u (sym (new_row h).0 ∙ z);
          holders = λ h. let most = (new_row h).1 in let was = g.holders h in omega arith;
          count = omega arith;
          room = omega arith;
          rest = ap (λ l. each (share_entry row) l n) (sym walked) ∙ g.rest;
        }

    pub going_more : (x : ℕ) → x ≡ (next_at n.entries src k).page.0 + 1 → (v : Machine) → v ≡ share_entry row (held_of (next_at n.entries src k)) n → Going m v src row x (left - 1)
    going_more x page v put =
        subst (λ (y : ℕ). Going m v src row y (left - 1)) (sym (page ∙ ap (λ (y : Entry). y.page.0 + 1) next.same))
        (subst (λ (y : Machine). Going m y src row (e.page.0 + 1) (left - 1)) (sym (put ∙ ap (λ (y : Entry). share_entry row (held_of y) n) next.same)) going_one)

  pub going_all : (n : Machine) (k left : ℕ) → Going m n src row k left → left ≡ 0 → n ≡ each (share_entry row) (single_pages m.entries src) m
  unfolding each
  going_all n k left g z = go (pages_from k m.entries src) refl
    where
      go : (l : List Held) → pages_from k m.entries src ≡ l → n ≡ each (share_entry row) (single_pages m.entries src) m
      go [] e = sym (ap (λ l. each (share_entry row) l n) e) ∙ g.rest
      go (h ∷ l) e = let size = g.count ∙ ap (λ l. length l) e in absurd (omega arith)

-- a search that found a row found one
pub next_missing : (f : Option ℕ) → is_found f ≡ true → f ≡ None → ⊥
next_missing f t e = false≢true (ap (λ (x : Option ℕ). is_found x) (sym e) ∙ t)

pub next_small : (t : List Entry) (src page i : ℕ) → length t ≡ 512 → next_entry t src page ≡ Some i → i < 512
next_small t src page i sized e = let low = (next_found t src page i e).0 in omega arith

-- ---- the entry that was read is the next

module _ (m : Machine) (src page i : ℕ) (x : Entry) (found : next_entry m.entries src page ≡ Some i) (read : x ≡ get_or m.entries i no_entry) (k : ShareNext m src page) where
  is_next : x ≡ next_at m.entries src page
  is_next = read ∙ ap (λ (f : Option ℕ). get_or m.entries (row_found f) no_entry) (sym found)

  pub next_can : CanShare m x.frame.0
  next_can = subst (λ (y : Entry). CanShare m y.frame.0) (sym is_next) k.can

  pub next_page : x.page.0 + 1 < 2 ^ 64
  next_page = let same = ap (λ (y : Entry). y.page.0) is_next in let low = k.page in omega arith

  pub next_shared : (row : ℕ) (n : Machine) → n ≡ share_entry row (record { page = x.page.0; frame = x.frame.0 }) m → (x.page.0 + 1 ≡ (next_at m.entries src page).page.0 + 1) × (n ≡ share_entry row (held_of (next_at m.entries src page)) m)
  next_shared row n put = (ap (λ (y : Entry). y.page.0 + 1) is_next, put ∙ ap (λ (y : Entry). share_entry row (held_of y) m) is_next)

-- ---- how many are left

pub left_all : (m n : Machine) (src row k left : ℕ) → Going m n src row k left → Going m n src row k (left - 0)
left_all m n src row k left g = let same : left ≡ left - 0 = omega arith in subst (λ (x : ℕ). Going m n src row k x) same g

pub left_less : (m n : Machine) (src row k a i : ℕ) → Going m n src row k (a - i - 1) → Going m n src row k (a - (i + 1))
left_less m n src row k a i g = let same : a - i - 1 ≡ a - (i + 1) = omega arith in subst (λ (x : ℕ). Going m n src row k x) same g
