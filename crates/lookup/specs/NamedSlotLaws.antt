-- What calls use of a sound machine: backings are no longer than the frames, slots in list order are slots.
use Rattle.std.specs.Prelude.{◌≡◌, refl, Bool, true, false, cond, List, [], ◌∷◌, ℕ, zero, suc, ◌≤◌, ◌<◌, length, get_or, ltb, Some, Result, Ok}
use Rattle.std.proofs.Common.{ap, sym, ◌∙◌, zero-le, suc-le-suc, arith, ltb-true, ltb-false}
use Rattle.std.proofs.Math.Decide.{ℕ_discrete}
use Rattle.std.proofs.Math.ListN.{get_or-eq_default}
use Rattle.laws.specs.ResultLaws.{none_not_some, some_same}
use Rattle.answers.specs.declared.Refusal.{Refusal}
use Rattle.model.specs.declared.Backing.{Backing}
use Rattle.model.specs.Machine.{order_of, region_at, no_backing}
use Rattle.model.specs.Layout.{machine}
use Rattle.model.specs.Lookup.{first_slot, region_for, contains}
use Rattle.model.specs.Backing.{backing_at}
use Rattle.model.specs.Sound.{Sound}
use Rattle.model.specs.RecordLaws.{sound_tells}
use Rattle.lookup.specs.LookupsLaws.{processes_length}
use Rattle.model.specs.Answers.{first_of}
use Rattle.model.specs.Refusals.{region_refusals, slot_at}
use Rattle.rows.specs.LentMemory.{state_of, words_alone, SoundWords}
use Rattle.lookup.specs.FirstOfLaws.{open_small}
use Rattle.lookup.specs.Named.{named_by}
use Rattle.lookup.specs.NamedLaws.{named_slot, region_yes}

pub sound_of : {w : List ℕ} (k : SoundWords w) → Sound (state_of w k.frames k.files)
sound_of k = (sound_tells _).yes k.sound

-- no backing has more than 256 frames
pub words_len : (w : List ℕ) → SoundWords w → (f : ℕ) → (backing_at (machine w) f).len ≤ 256
words_len w k f = go (ltb f (length (machine w).backings)) refl (ℕ_discrete (backing_at (machine w) f).len 0)
  where
    go : (b : Bool) → ltb f (length (machine w).backings) ≡ b → Dec ((backing_at (machine w) f).len ≡ 0) → (backing_at (machine w) f).len ≤ 256
    go b e (yes z) = omega arith
    go true e (no z) = let last = (sound_of k).r2.within f (ltb-true f (length (machine w).backings) e) z in let few = (sound_of k).r6.sized.frame_count in omega arith
    go false e (no z) = absurd (z (ap (λ (b : Backing). b.len) (get_or-eq_default (machine w).backings no_backing {n = f} (ltb-false f (length (machine w).backings) e))))

-- a slot that is found is one of the list
found_below : (f : ℕ → Bool) (l : List ℕ) (n : ℕ) → ((i : ℕ) → i < length l → get_or l i 0 < n) → (s : ℕ) → first_slot f l ≡ Some s → s < n
unfolding first_slot
found_below f [] n h s e = absurd (none_not_some e)
found_below f (x ∷ l) n h s e = go (f x) e (found_below f l n (λ i k. h (suc i) (suc-le-suc k)) s)
  where
    go : (b : Bool) → cond b (Some x) (first_slot f l) ≡ Some s → (first_slot f l ≡ Some s → s < n) → s < n
    go true p ih = let same = some_same p in let small = h zero (suc-le-suc zero-le) in omega arith
    go false p ih = ih p

pub slot_small : (w : List ℕ) → SoundWords w → (p a s : ℕ) → p < 8 → Some s ≡ region_for (machine w) p a → s < 64
unfolding region_for
slot_small w k p a s h e = found_below (λ t. contains (region_at (machine w) p t) a) (order_of (machine w) p) 64 (λ i l. (((sound_of k).r6.ordered p (rw processes_length h)).listed i l).0) s (sym e)

-- the slot of a region that a call names, of a sound machine
pub named_small : (w : List ℕ) → SoundWords w → (p a j : ℕ) (n : Result ℕ Refusal) → n ≡ named_by (first_of (region_refusals (words_alone w) p a)) (slot_at (words_alone w) p a) → n ≡ Ok j → (p < 8) × (j < 64)
named_small w k p a j n e f =
    let named = named_slot _ _ j n e f in
    let there = region_yes w p a named.0 in
    let small = open_small w p there.0 in
    (small, slot_small w k p a j small (ap (λ (i : ℕ). Some i) named.1 ∙ there.1))
