-- The walk through the pages of a range that are copied.
use Rattle.std.specs.Prelude.{◌≡◌, Bool, true, false, not, List, ◌∷◌, length}
use Rattle.std.proofs.Math.Path.{refl, ap}
use Rattle.std.proofs.Common.{sym, subst, ◌∙◌}
use Rattle.std.proofs.Math.Bool.{cond}
use Prim.Native.Nat.{ℕ, suc, ◌+◌, ◌-◌, ◌/◌, ◌≤◌, ◌<◌}
use native.Mathlib.Omega.{arith}
use Rattle.model.specs.declared.Region.{Region}
use Rattle.laws.specs.Lists.{keep, each, up_from}
use Rattle.model.specs.Layout.{machine}
use Rattle.model.specs.Machine.{Machine, State}
use Rattle.model.specs.Lookup.{is_found}
use Rattle.model.specs.Backing.{entry_for}
use Rattle.model.specs.Clone.{Held, copy_entry}
use Rattle.rows.specs.LentMemory.{state_of}
use Rattle.clone_pages.specs.BackedPages.{frames_from, bare_in}
use Rattle.clone_copy.specs.CopyPage.{CanCopy, copied_machine, copied_frames, bare_machine, bare_frames, Room}
use Rattle.clone_copy.specs.CopyPageLaws.{room_can, room_less, copy_state, entry_alike}
use Rattle.clone_copy.specs.CopyRange.{bare_all, RangeCopy, RangeCopied}

-- those of the pages from the i-th on that no entry shadows
abbrev pub bare_from : Machine → ℕ → Region → ℕ → ℕ → List Held
bare_from m src r len i = keep (bare_in m src) (frames_from r i (len - i))

pub record RangeGoing (w₀ f₀ : List ℕ) (src row : ℕ) (r : Region) (len : ℕ) (w f : List ℕ) (i : ℕ) : Type 0 where
  pub low : i ≤ len
  pub words : length w ≡ length w₀
  pub frames : length f ≡ length f₀
  pub room : Room (machine w₀).entries (machine w) src (machine w₀).frame_count (length (bare_from (machine w₀) src r len i))
  pub rest : (files : List ℕ) → each (copy_entry row) (bare_from (machine w₀) src r len i) (state_of w f files) ≡ each (copy_entry row) (bare_all (machine w₀) src r len) (state_of w₀ f₀ files)

module _ (w₀ f₀ : List ℕ) (src row : ℕ) (r : Region) (len : ℕ) (s : RangeCopy (machine w₀) (length f₀) src row r len) where
  abbrev m : Machine
  m = machine w₀

  pub range_first : RangeGoing w₀ f₀ src row r len w₀ f₀ 0
  range_first =
      let all : len - 0 ≡ len = omega arith in
      record { low = omega arith; words = refl; frames = refl; room = subst (λ (k : ℕ). Room m.entries m src m.frame_count (length (keep (bare_in m src) (frames_from r 0 k)))) (sym all) s.room; rest = λ files. ap (λ (k : ℕ). each (copy_entry row) (keep (bare_in m src) (frames_from r 0 k)) (state_of w₀ f₀ files)) all }

  module _ (w f : List ℕ) (i : ℕ) (g : RangeGoing w₀ f₀ src row r len w f i) (more : i < len) (page : ℕ) (is : page ≡ r.start.0 / 4096 + i) where
    abbrev from : ℕ
    from = r.range.0 + i

    abbrev here : Held
    here = record { page = page; frame = from }

    abbrev rest_of : List Held
    rest_of = bare_from m src r len (i + 1)

    split : bare_from m src r len i ≡ cond (not (is_found (entry_for m src page))) (here ∷ rest_of) rest_of
    unfolding keep up_from
    split = ap (λ (k : ℕ). keep (bare_in m src) (frames_from r i k)) one ∙ ap (λ (k : ℕ). cond (not (is_found (entry_for m src k))) (record { page = k; frame = from } ∷ rest_of) rest_of) (sym is)
      where
        one : len - i ≡ suc (len - (i + 1))
        one = omega arith

    same : is_found (entry_for (machine w) src page) ≡ is_found (entry_for m src page)
    same = entry_alike m.entries m (machine w) src page refl g.room.alike

    pub range_can : is_found (entry_for (machine w) src page) ≡ false → CanCopy (machine w) (length f) from
    range_can e =
        let size = ap (λ l. length l) (split ∙ ap (λ (b : Bool). cond (not b) (here ∷ rest_of) rest_of) (sym same ∙ e)) in
        let low = s.inside (omega arith) in
        room_can m.entries (machine w) src m.frame_count _ g.room (omega arith) (length f) from (g.frames ∙ s.bytes) (omega arith)

    module _ (v l : List ℕ) (v_long : length v ≡ length w) (l_long : length l ≡ length f) (puts : machine v ≡ bare_machine (machine w) src row page) (copies : l ≡ bare_frames (machine w) f src page from) where
      pub range_more : RangeGoing w₀ f₀ src row r len v l (i + 1)
      unfolding bare_machine bare_frames each
      range_more = go (is_found (entry_for (machine w) src page)) refl
        where
          rest_is : (b : Bool) → is_found (entry_for (machine w) src page) ≡ b → bare_from m src r len i ≡ cond (not b) (here ∷ rest_of) rest_of
          rest_is b e = split ∙ ap (λ (x : Bool). cond (not x) (here ∷ rest_of) rest_of) (sym same ∙ e)

          machine_is : (b : Bool) → is_found (entry_for (machine w) src page) ≡ b → machine v ≡ cond b (machine w) (copied_machine (machine w) row page)
          machine_is b e = puts ∙ ap (λ (x : Bool). cond x (machine w) (copied_machine (machine w) row page)) e

          frames_are : (b : Bool) → is_found (entry_for (machine w) src page) ≡ b → l ≡ cond b f (copied_frames (machine w) f from)
          frames_are b e = copies ∙ ap (λ (x : Bool). cond x f (copied_frames (machine w) f from)) e

          go : (b : Bool) → is_found (entry_for (machine w) src page) ≡ b → RangeGoing w₀ f₀ src row r len v l (i + 1)
          go true e = record {
            low = omega arith;
            words = v_long ∙ g.words;
            frames = l_long ∙ g.frames;
            room = subst (λ (x : Machine). Room m.entries x src m.frame_count (length rest_of)) (sym (machine_is true e)) (subst (λ z. Room m.entries (machine w) src m.frame_count (length z)) (rest_is true e) g.room);
            rest = λ files. (λ t. each (copy_entry row) (sym (rest_is true e) t) (record { machine = machine_is true e t; frames = frames_are true e t; bytes = files })) ∙ g.rest files;
          }
          go false e =
              let whole = subst (λ z. Room m.entries (machine w) src m.frame_count (length z)) (rest_is false e) g.room in
              let less : suc (length rest_of) - 1 ≡ length rest_of = omega arith in
              record {
                low = omega arith;
                words = v_long ∙ g.words;
                frames = l_long ∙ g.frames;
                room = subst (λ (x : Machine). Room m.entries x src m.frame_count (length rest_of)) (sym (machine_is false e)) (subst (λ (k : ℕ). Room m.entries (copied_machine (machine w) row page) src m.frame_count k) less (room_less m.entries (machine w) src row m.frame_count (suc (length rest_of)) page whole (omega arith) s.other));
                rest = λ files.
                    ap (λ (x : State). each (copy_entry row) rest_of x) ((λ t. record { machine = machine_is false e t; frames = frames_are false e t; bytes = files }) ∙ sym (copy_state row here (machine w) f files))
                    ∙ ap (λ z. each (copy_entry row) z (state_of w f files)) (sym (rest_is false e)) ∙ g.rest files;
              }

  pub range_all : (w f : List ℕ) (i : ℕ) → RangeGoing w₀ f₀ src row r len w f i → len ≤ i → RangeCopied w₀ f₀ src row r len w f
  unfolding each keep up_from
  range_all w f i g done files = ap (λ (k : ℕ). each (copy_entry row) (keep (bare_in m src) (frames_from r i k)) (state_of w f files)) (sym none) ∙ g.rest files
    where
      none : len - i ≡ 0
      none = omega arith
