-- Laws of copying one page, and of the room that is left.
use Rattle.std.specs.Prelude.{◌≡◌, refl, ◌≢◌, Bool, true, false, List, ℕ, ◌+◌, ◌-◌, ◌*◌, ◌≤◌, ◌<◌, length, Option, Some, None}
use Rattle.std.proofs.Math.Path.{ap}
use Rattle.std.proofs.Common.{sym, subst, ◌∙◌, arith}
use Rattle.std.proofs.Math.Bool.{cond}
use Rattle.model.specs.declared.Entry.{Entry}
use Rattle.model.specs.Machine.{Machine}
use Rattle.model.specs.Lookup.{is_found, free_entry, free_entries}
use Rattle.model.specs.Backing.{claim, add_entry, with_backings, frame_bytes, put_frame, entry_for}
use Rattle.model.specs.Clone.{Held, copy_entry}
use Rattle.backing.specs.BackingSteps.{claimed, next_frame, with_next_taken}
use Rattle.backing.specs.Ready.{Ready}
use Rattle.backing.specs.BackingLaws.{FreeRun, Taken, taken_at, taken_none, claim_is, claim_ready}
use Rattle.clone_pages.specs.Alike.{Alike}
use Rattle.clone_pages.specs.AlikeLaws.{found_alike}
use Rattle.clone_share.specs.EntryPutLaws.{entry_found, ready_entries, added_fewer, added_alike}
use Rattle.clone_copy.specs.CopyPage.{copied_machine, copied_frames, bare_machine, bare_frames, CanCopy, Room}

module _ (m : Machine) (size from : ℕ) (k : CanCopy m size from) where
  pub frame_there : next_frame m ≡ None → ⊥
  frame_there e = let none = ap (λ l. length l) (taken_none m k.ready e).0 in let free = k.ready.r2.free in let some = k.free in omega arith

  pub from_inside : from * 4096 + 4096 ≤ size
  from_inside = let low = k.inside in let long = k.bytes in omega arith

  module _ (f : ℕ) (e : next_frame m ≡ Some f) where
    taken : Taken m f
    taken = taken_at m k.ready f e

    pub new_inside : f * 4096 + 4096 ≤ size
    new_inside = let low = taken.run.inside in let long = k.bytes in omega arith

    module _ (a : Machine) (takes : a ≡ with_next_taken m) where
      is_claim : a ≡ claim m f 1
      is_claim = takes ∙ taken.leaves

      pub claim_found : is_found (free_entry a) ≡ true
      unfolding claim with_backings free_entry
      claim_found = ap (λ (x : Machine). is_found (free_entry x)) is_claim ∙ entry_found m k.entry

      pub copies_entry : (row page : ℕ) (n : Machine) → n ≡ add_entry a row page f → n ≡ copied_machine m row page
      unfolding copied_machine
      copies_entry row page n put = put ∙ ap (λ (x : Machine). add_entry x row page f) is_claim ∙ ap (λ (x : ℕ). add_entry (claim m x 1) row page x) taken.lowest

    pub copies_frame : (l g : List ℕ) → g ≡ put_frame l f (frame_bytes l from) → g ≡ copied_frames m l from
    unfolding copied_frames
    copies_frame l g put = put ∙ ap (λ (x : ℕ). put_frame l x (frame_bytes l from)) taken.lowest

-- ---- shadowed or not

module _ (m : Machine) (l : List ℕ) (src row page from : ℕ) (b : Bool) (told : b ≡ is_found (entry_for m src page)) where
  pub shadowed : b ≡ true → (m ≡ bare_machine m src row page) × (l ≡ bare_frames m l src page from)
  unfolding bare_machine bare_frames
  shadowed e = (ap (λ (t : Bool). cond t m (copied_machine m row page)) (sym e ∙ told), ap (λ (t : Bool). cond t l (copied_frames m l from)) (sym e ∙ told))

  pub bare : b ≡ false → (n : Machine) → n ≡ copied_machine m row page → (g : List ℕ) → g ≡ copied_frames m l from → (n ≡ bare_machine m src row page) × (g ≡ bare_frames m l src page from)
  unfolding bare_machine bare_frames
  bare e n put g copy = (put ∙ ap (λ (t : Bool). cond t m (copied_machine m row page)) (sym e ∙ told), copy ∙ ap (λ (t : Bool). cond t l (copied_frames m l from)) (sym e ∙ told))

ready_added : (m : Machine) (row page f : ℕ) → Ready m → Ready (add_entry m row page f)
unfolding add_entry
ready_added m row page f k = ready_entries m _ k

-- ---- room for so many copies

pub room_can : (t : List Entry) (n : Machine) (src count left : ℕ) → Room t n src count left → 1 ≤ left → (size from : ℕ) → size ≡ count * 4096 → from < count → CanCopy n size from
room_can t n src count left k some size from bytes low = let a = k.entries in let b = k.free in let c = k.frames in record { ready = k.ready; free = omega arith; entry = omega arith; bytes = bytes ∙ ap (λ (x : ℕ). x * 4096) (sym c); inside = omega arith }

entries_claimed : (n : Machine) (f : ℕ) → n.entries ≡ (claim n f 1).entries
unfolding claim with_backings
entries_claimed n f = refl

free_claimed : (n : Machine) (f : ℕ) → free_entries (claim n f 1) ≡ free_entries n
unfolding claim with_backings free_entries
free_claimed n f = refl

count_claimed : (n : Machine) (f row page : ℕ) → (add_entry (claim n f 1) row page f).frame_count ≡ n.frame_count
unfolding claim with_backings add_entry
count_claimed n f row page = refl

pool_added : (n : Machine) (f row page : ℕ) → (add_entry (claim n f 1) row page f).pool.free ≡ (claim n f 1).pool.free
unfolding add_entry
pool_added n f row page = refl

pool_claimed : (n : Machine) (f : ℕ) → (claimed n f 1).pool.free ≡ n.pool.free - 1
unfolding claimed
pool_claimed n f = refl

module _ (t : List Entry) (n : Machine) (src row count left page : ℕ) (k : Room t n src count left) (some : 1 ≤ left) (other : src ≢ row) where
  abbrev f : ℕ
  f = n.pool.next.0

  found : next_frame n ≡ Some f
  found = go (next_frame n) refl
    where
      go : (x : Option ℕ) → next_frame n ≡ x → x ≡ Some f
      go None e = let none = ap (λ l. length l) (taken_none n k.ready e).0 in let free = k.ready.r2.free in let most = k.free in absurd (omega arith)
      go (Some g) e = ap (λ (x : ℕ). Some x) (taken_at n k.ready g e).lowest

  run : FreeRun n f 1
  run = (taken_at n k.ready f found).run

  one_left : 1 ≤ free_entries (claim n f 1)
  one_left = let same = free_claimed n f in let most = k.entries in omega arith

  pub room_less : Room t (copied_machine n row page) src count (left - 1)
  unfolding copied_machine
  room_less =
      let fewer = added_fewer (claim n f 1) row page f one_left in
      let same = free_claimed n f in
      let a = k.entries in
      let b = k.free in
      let one = ap (λ (x : Machine). x.pool.free) (claim_is n k.ready f 1 run) in
      let two = pool_claimed n f in
      let three = pool_added n f row page in
      record {
        alike = added_alike (claim n f 1) row page f one_left t src other (subst (λ l. Alike t l src) (entries_claimed n f) k.alike);
        ready = added_ready;
        frames = count_claimed n f row page ∙ k.frames;
        entries = omega arith;
        free = omega arith;
      }
    where
      added_ready : Ready (add_entry (claim n f 1) row page f)
      added_ready = ready_added (claim n f 1) row page f (claim_ready n k.ready f 1 run)

-- ---- the state

pub copy_state : (row : ℕ) (h : Held) (n : Machine) (l b : List ℕ) → copy_entry row h (record { machine = n; frames = l; bytes = b }) ≡ record { machine = copied_machine n row h.page; frames = copied_frames n l h.frame; bytes = b }
unfolding copy_entry copied_machine copied_frames
copy_state row h n l b = refl

pub entry_alike : (t : List Entry) (m n : Machine) (src page : ℕ) → t ≡ m.entries → Alike t n.entries src → is_found (entry_for n src page) ≡ is_found (entry_for m src page)
unfolding entry_for
entry_alike t m n src page e a = ap (λ (x : Option ℕ). is_found x) (found_alike m.entries n.entries src page (subst (λ l. Alike l n.entries src) e a))
