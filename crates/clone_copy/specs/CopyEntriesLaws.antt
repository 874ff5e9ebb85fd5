-- The walk through the entries that are copied.
use Rattle.std.specs.Prelude.{◌≡◌, ◌≢◌, cond, ℕ, zero, suc, ◌+◌, ◌-◌, ◌^◌, ◌≤◌, ◌<◌, get_or, eqb, Option, Some, None}
use Rattle.std.proofs.Math.Path.{refl, ap, sym, subst}
use Rattle.std.proofs.Common.{◌∙◌, arith, ne_eqb}
use mathlib.Core.List.{List, [], ◌∷◌}
use Rattle.std.proofs.Math.Decide.{ℕ_discrete}
use Rattle.std.proofs.Math.ListN.{length}
use Rattle.model.specs.declared.Entry.{Entry}
use Rattle.laws.specs.Lists.{each}
use Rattle.model.specs.Layout.{machine}
use Rattle.model.specs.Machine.{Machine, State, no_entry}
use Rattle.model.specs.Lookup.{is_found, row_found}
use Rattle.model.specs.Clone.{Held, in_order, single_pages, copy_entry}
use Rattle.rows.specs.LentMemory.{state_of}
use Rattle.lookup.specs.NextEntry.{next_entry, held_of}
use Rattle.lookup.specs.NextEntryLaws.{next_found}
use Rattle.lookup.specs.WalkLaws.{pages_from, walk_start, walk_on, walk_end}
use Rattle.clone_pages.specs.Alike.{Alike}
use Rattle.clone_pages.specs.AlikeLaws.{next_alike}
use Rattle.clone_share.specs.ShareNext.{next_at}
use Rattle.clone_copy.specs.CopyPage.{CanCopy, copied_machine, copied_frames, Room}
use Rattle.clone_copy.specs.CopyPageLaws.{room_can, room_less, copy_state}
use Rattle.clone_copy.specs.CopyEntries.{CopyNext, SingleCopy, SinglesCopied}

pages_same : (t u : List Entry) (src : ℕ) → length u ≡ length t → ((j : ℕ) → (get_or t j no_entry).owner ≡ src + 1 → get_or u j no_entry ≡ get_or t j no_entry) → ((j : ℕ) → (get_or t j no_entry).owner ≢ src + 1 → (get_or u j no_entry).owner ≢ src + 1) → single_pages u src ≡ single_pages t src
unfolding single_pages
pages_same [] [] src long same other = refl
pages_same [] (y ∷ u) src long same other = absurd (omega arith)
pages_same (x ∷ t) [] src long same other = absurd (omega arith)
pages_same (x ∷ t) (y ∷ u) src long same other = go (ℕ_discrete x.owner (src + 1)) (pages_same t u src (omega arith) (λ j. same (suc j)) (λ j. other (suc j)))
  where
    go : Dec (x.owner ≡ src + 1) → single_pages u src ≡ single_pages t src → cond (eqb y.owner (src + 1)) (in_order (held_of y) (single_pages u src)) (single_pages u src) ≡ cond (eqb x.owner (src + 1)) (in_order (held_of x) (single_pages t src)) (single_pages t src)
    go (yes o) ih = λ k. cond (eqb (same zero o k).owner (src + 1)) (in_order (held_of (same zero o k)) (ih k)) (ih k)
    go (no o) ih = rw (ne_eqb y.owner (src + 1) (other zero o), ne_eqb x.owner (src + 1) o) ih

-- tables that are alike for a region have the same pages of it
pub single_alike : (t u : List Entry) (src : ℕ) → Alike t u src → single_pages u src ≡ single_pages t src
single_alike t u src a = pages_same t u src a.long a.same a.other

-- the entry that was read is the next
module _ (m : Machine) (size src page i : ℕ) (x : Entry) (found : next_entry m.entries src page ≡ Some i) (read : x ≡ get_or m.entries i no_entry) (k : CopyNext m size src page) where
  is_next : x ≡ next_at m.entries src page
  is_next = read ∙ ap (λ (f : Option ℕ). get_or m.entries (row_found f) no_entry) (sym found)

  pub next_can : CanCopy m size x.frame.0
  next_can = subst (λ (y : Entry). CanCopy m size y.frame.0) (sym is_next) k.can

  pub next_page : x.page.0 + 1 < 2 ^ 64
  next_page = let same = ap (λ (y : Entry). y.page.0) is_next in let low = k.page in omega arith

  pub next_copied : (row : ℕ) (n : Machine) → n ≡ copied_machine m row x.page.0 → (l g : List ℕ) → g ≡ copied_frames m l x.frame.0 → (x.page.0 + 1 ≡ (next_at m.entries src page).page.0 + 1) × ((n ≡ copied_machine m row (next_at m.entries src page).page.0) × (g ≡ copied_frames m l (next_at m.entries src page).frame.0))
  next_copied row n put l g copy = (ap (λ (y : Entry). y.page.0 + 1) is_next, (put ∙ ap (λ (y : Entry). copied_machine m row y.page.0) is_next, copy ∙ ap (λ (y : Entry). copied_frames m l y.frame.0) is_next))

pub record SingleGoing (t : List Entry) (w₀ f₀ : List ℕ) (src row : ℕ) (w f : List ℕ) (k left : ℕ) : Type 0 where
  pub words : length w ≡ length w₀
  pub frames : length f ≡ length f₀
  pub room : Room t (machine w) src (machine w₀).frame_count left
  pub count : left ≡ length (pages_from k t src)
  pub rest : (files : List ℕ) → each (copy_entry row) (pages_from k t src) (state_of w f files) ≡ each (copy_entry row) (single_pages t src) (state_of w₀ f₀ files)

module _ (w₀ f₀ : List ℕ) (src row : ℕ) (s : SingleCopy (machine w₀) (length f₀) src row) where
  abbrev t : List Entry
  t = s.base

  abbrev m : Machine
  m = machine w₀

  pub single_first : (n : ℕ) → n ≡ length (single_pages m.entries src) → SingleGoing t w₀ f₀ src row w₀ f₀ 0 (n - 0)
  single_first n e =
      let start = walk_start t src in
      let same : length (single_pages t src) ≡ n - 0 = let a = ap (λ l. length l) (single_alike t m.entries src s.room.alike) in omega arith in
      record { words = refl; frames = refl; room = subst (λ (x : ℕ). Room t m src m.frame_count x) same s.room; count = sym same ∙ ap (λ l. length l) (sym start); rest = λ files. ap (λ l. each (copy_entry row) l (state_of w₀ f₀ files)) start }

  module _ (w f : List ℕ) (k left : ℕ) (g : SingleGoing t w₀ f₀ src row w f k left) (some : 0 < left) where
    abbrev n : Machine
    n = machine w

    record Next : Type 0 where
      at : ℕ
      found : next_entry t src k ≡ Some at
      here : next_entry n.entries src k ≡ Some at
      owner : (get_or t at no_entry).owner ≡ src + 1
      same : next_at n.entries src k ≡ get_or t at no_entry

    next : Next
    next = go (next_entry t src k) refl
      where
        go : (x : Option ℕ) → next_entry t src k ≡ x → Next
        go None e = let none = ap (λ l. length l) (walk_end t src k e) in let size = g.count in absurd (omega arith)
        go (Some j) e =
            let here = next_alike t n.entries src k g.room.alike ∙ e in
            let owner = (next_found t src k j e).1.owned in
            record { at = j; found = e; here = here; owner = owner; same = ap (λ (x : Option ℕ). get_or n.entries (row_found x) no_entry) here ∙ g.room.alike.same j owner }

    abbrev e : Entry
    e = get_or t next.at no_entry

    pub single_next : CopyNext n (length f) src k
    single_next =
        let page = s.pages next.at next.owner in
        let same = ap (λ (x : Entry). x.page.0) next.same in
        record { found = ap (λ (x : Option ℕ). is_found x) next.here; can = subst (λ (x : Entry). CanCopy n (length f) x.frame.0) (sym next.same) (room_can t n src m.frame_count left g.room (omega arith) (length f) e.frame.0 (g.frames ∙ s.bytes) (s.frames next.at next.owner)); page = omega arith }

    walked : pages_from k t src ≡ held_of e ∷ pages_from (e.page.0 + 1) t src
    walked = walk_on t src k s.once next.at next.found

    pub single_more :
        (x : ℕ) → x ≡ (next_at n.entries src k).page.0 + 1
        → (v l : List ℕ) → length v ≡ length w → length l ≡ length f
        → machine v ≡ copied_machine n row (next_at n.entries src k).page.0 → l ≡ copied_frames n f (next_at n.entries src k).frame.0
        → SingleGoing t w₀ f₀ src row v l x (left - 1)
    unfolding each
    single_more x page v l v_long l_long puts copies =
        let size = g.count ∙ ap (λ z. length z) walked in
        record {
          words = v_long ∙ g.words;
          frames = l_long ∙ g.frames;
          room = subst (λ (y : Machine). Room t y src m.frame_count (left - 1)) (sym v_is) (room_less t n src row m.frame_count left e.page.0 g.room (omega arith) s.other);
          count = subst (λ (y : ℕ). left - 1 ≡ length (pages_from y t src)) (sym x_is) (omega arith);
          rest = λ files.
              ap (λ (y : ℕ). each (copy_entry row) (pages_from y t src) (state_of v l files)) x_is
              ∙ ap (λ (y : State). each (copy_entry row) (pages_from (e.page.0 + 1) t src) y) ((λ i. record { machine = v_is i; frames = l_is i; bytes = files }) ∙ sym (copy_state row (held_of e) n f files))
              ∙ ap (λ z. each (copy_entry row) z (state_of w f files)) (sym walked) ∙ g.rest files;
        }
      where
        x_is : x ≡ e.page.0 + 1
        x_is = page ∙ ap (λ (y : Entry). y.page.0 + 1) next.same

        v_is : machine v ≡ copied_machine n row e.page.0
        v_is = puts ∙ ap (λ (y : Entry). copied_machine n row y.page.0) next.same

        l_is : l ≡ copied_frames n f e.frame.0
        l_is = copies ∙ ap (λ (y : Entry). copied_frames n f y.frame.0) next.same

  pub single_all : (w f : List ℕ) (k left : ℕ) → SingleGoing t w₀ f₀ src row w f k left → left ≡ 0 → SinglesCopied w₀ f₀ src row w f
  unfolding each
  single_all w f k left g z files = go (pages_from k t src) refl
    where
      go : (l : List Held) → pages_from k t src ≡ l → state_of w f files ≡ each (copy_entry row) (single_pages m.entries src) (state_of w₀ f₀ files)
      go [] e = sym (ap (λ l. each (copy_entry row) l (state_of w f files)) e) ∙ g.rest files ∙ ap (λ l. each (copy_entry row) l (state_of w₀ f₀ files)) (sym (single_alike t m.entries src s.room.alike))
      go (h ∷ l) e = let size = g.count ∙ ap (λ l. length l) e in absurd (omega arith)

pub left_less : (t : List Entry) (w₀ f₀ : List ℕ) (src row : ℕ) (w f : List ℕ) (k a i : ℕ) → SingleGoing t w₀ f₀ src row w f k (a - i - 1) → SingleGoing t w₀ f₀ src row w f k (a - (i + 1))
left_less t w₀ f₀ src row w f k a i g = let same : a - i - 1 ≡ a - (i + 1) = omega arith in subst (λ (x : ℕ). SingleGoing t w₀ f₀ src row w f k x) same g

-- ---- the loop: i of n are copied, with the table that the region's entries are of

pub record SomeGoing (w₀ f₀ : List ℕ) (src row : ℕ) (w f : List ℕ) (k n i : ℕ) : Type 0 where
  pub start : SingleCopy (machine w₀) (length f₀) src row
  pub going : SingleGoing start.base w₀ f₀ src row w f k (n - i)

pub some_first : (w₀ f₀ : List ℕ) (src row : ℕ) → SingleCopy (machine w₀) (length f₀) src row → (n : ℕ) → n ≡ length (single_pages (machine w₀).entries src) → SomeGoing w₀ f₀ src row w₀ f₀ 0 n 0
some_first w₀ f₀ src row s n e = record { start = s; going = single_first w₀ f₀ src row s n e }

module _ (w₀ f₀ : List ℕ) (src row : ℕ) (w f : List ℕ) (k n i : ℕ) (g : SomeGoing w₀ f₀ src row w f k n i) where
  pub some_next : i < n → CopyNext (machine w) (length f) src k
  some_next h = single_next w₀ f₀ src row g.start w f k (n - i) g.going (omega arith)

  pub some_more :
      i < n → (x : ℕ) → x ≡ (next_at (machine w).entries src k).page.0 + 1
      → (v l : List ℕ) → length v ≡ length w → length l ≡ length f
      → machine v ≡ copied_machine (machine w) row (next_at (machine w).entries src k).page.0 → l ≡ copied_frames (machine w) f (next_at (machine w).entries src k).frame.0
      → SomeGoing w₀ f₀ src row v l x n (i + 1)
  some_more h x page v l a b puts copies = record { start = g.start; going = left_less g.start.base w₀ f₀ src row v l x n i (single_more w₀ f₀ src row g.start w f k (n - i) g.going (omega arith) x page v l a b puts copies) }

  pub some_all : n ≤ i → SinglesCopied w₀ f₀ src row w f
  some_all h = single_all w₀ f₀ src row g.start w f k (n - i) g.going (omega arith)
