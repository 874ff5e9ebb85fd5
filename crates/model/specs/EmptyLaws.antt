-- The empty machine is sound: whatever the frames and files that start accepts.
use Rattle.std.proofs.Math.Path.{◌≡◌, refl, sym}
use Rattle.std.proofs.Common.{ap, ◌∙◌, le-ltb, leb-true, ltb-false, eqb-true}
use Rattle.std.specs.Prelude.{Bool, not, ◌&&◌, cond, List, ℕ, zero, suc, ◌+◌, ◌/◌, ◌%◌, ◌≤◌, ◌<◌, get_or, take, replicate, ltb, leb, Ok, Err}
use Rattle.std.proofs.Math.Bool.{true, false}
use native.Mathlib.Omega.{arith}
use Rattle.std.proofs.Math.ListN.{length, get_or-eq_default}
use Rattle.std.proofs.lemmas.Bool.{not-false}
use Rattle.laws.specs.TellsLaws.{tells_both}
use Rattle.answers.specs.declared.Refusal.TheVariants.{BadTable}
use Rattle.laws.specs.ResultLaws.{err_not_ok}
use Rattle.model.specs.declared.File.{File}
use Rattle.laws.specs.Lists.{pad, up_from, first}
use Rattle.laws.specs.TestLaws.{tells_all, tells_le, tells_rows}
use Rattle.model.specs.Machine.{State, with_machine, empty_machine, no_file, no_backing, no_region, no_entry}
use Rattle.model.specs.Answers.{fine, first_of}
use Rattle.model.specs.Backing.{in_some, free_frames}
use Rattle.model.specs.Sound.{Sound, R2, R6, Sized, FileFits}
use Rattle.model.specs.Open.{everything}
use Rattle.model.specs.SoundLaws.{r1_tells, r3_tells, r4_tells, r5_tells, backings_tell, backing_apart_tells, within_tells, tells_processes}
use Rattle.model.specs.RecordLaws.{process_tells, ordered_tells, paged_tells, region_tells, entry_tells, once_a_page_tells, one_page_tells, free_backing_tells}
use Rattle.model.specs.Refusals.{bad_lengths, start_refusals}
use Rattle.model.specs.Calls as calls
use Rattle.laws.specs.ListsLaws.{keep_all, up_length, pad_length, pad_at}
use Rattle.laws.specs.BoolLaws.{or_none}

-- ---- no backing holds a frame

never : (f g : ℕ) → (leb g f && ltb f (g + 0)) ≡ false
never f g = go (leb g f) refl
  where
    go : (b : Bool) → leb g f ≡ b → (b && ltb f (g + 0)) ≡ false
    go true e = let h = leb-true g f e in le-ltb f (g + 0) (omega arith)
    go false e = refl

in_none : (f g n k : ℕ) → in_some f g (take n (replicate k no_backing)) ≡ false
unfolding in_some
in_none f g zero k = refl
in_none f g (suc n) zero = refl
in_none f g (suc n) (suc k) = rw (never f g) (in_none f (g + 1) n k)

free_all : (n k : ℕ) → free_frames n (take n (replicate k no_backing)) ≡ up_from 0 n
unfolding free_frames
free_all n k = keep_all _ (λ f. ap not (in_none f 0 n k)) (up_from 0 n)

up_first : (n : ℕ) → first n (up_from 0 n) ≡ 0
unfolding up_from
up_first zero = refl
up_first (suc n) = refl

-- ---- the files' rows

module _ (s : State) (files : List File) where
  abbrev n : ℕ
  n = length s.frames / 4096

  abbrev after : State
  after = with_machine s (empty_machine n files)

  module _ (framed : length s.frames % 4096 ≡ 0) (few : n ≤ 256) (few_files : length files ≤ 8)
      (fit : (i : ℕ) → i < length files → ((get_or files i no_file).readable ≤ 1) × ((get_or files i no_file).offset + (get_or files i no_file).len ≤ length s.bytes)) where
    empty_r2 : R2 after.machine
    unfolding everything
    empty_r2 = record {
      apart = (backings_tell after.machine _ _ (backing_apart_tells after.machine)).yes refl;
      within = (backings_tell after.machine _ _ (within_tells after.machine)).yes refl;
      free = sym (ap length (free_all n 256) ∙ up_length 0 n);
      next = sym (ap (first n) (free_all n 256) ∙ up_first n);
    }

    empty_sized : Sized after
    unfolding everything
    empty_sized = record { processes = refl; regions = refl; order = refl; mapped = refl; entries = refl; backings = refl; files = pad_length 8 no_file files; frame_count = few; file_count = few_files; frames = omega arith }

    empty_file : (i : ℕ) → i < 8 → FileFits after i (get_or (pad 8 no_file files) i no_file)
    unfolding everything
    empty_file i h = record {
      inside = λ k. rw (pad_at 8 no_file files i h) (fit i k);
      free = λ k. pad_at 8 no_file files i h ∙ get_or-eq_default files no_file k;
    }

    empty_r6 : R6 after
    unfolding everything
    empty_r6 = record {
      sized = empty_sized;
      files = λ i h. empty_file i (rw pad_length at h);
      processes = (tells_processes after.machine _ _ (process_tells after.machine)).yes refl;
      ordered = (tells_processes after.machine _ _ (ordered_tells after.machine)).yes refl;
      paged = (tells_processes after.machine _ _ (paged_tells after.machine)).yes refl;
      regions = (tells_rows no_region _ _ (λ i r. region_tells after.machine r) after.machine.regions).yes refl;
      entries = (tells_rows no_entry _ _ (λ i e. entry_tells after.machine e) after.machine.entries).yes refl;
      once_a_page = (once_a_page_tells after.machine).yes refl;
      one_page = (one_page_tells after.machine).yes refl;
      free_backings = (free_backing_tells after.machine).yes refl;
    }

    pub empty_sound : Sound after
    unfolding everything
    empty_sound = record { r1 = (r1_tells after.machine).yes refl; r2 = empty_r2; r3 = (r3_tells after.machine).yes refl; r4 = (r4_tells after.machine).yes refl; r5 = (r5_tells after.machine).yes refl; r6 = empty_r6 }

  started : (b : Bool) → bad_lengths s files ≡ b → (calls.decided (cond b (Err BadTable) (Ok tt)) Err s (fine after)).answer ≡ Ok tt → Sound (calls.decided (cond b (Err BadTable) (Ok tt)) Err s (fine after)).state
  unfolding bad_lengths
  started true p e = absurd (err_not_ok e)
  started false p e =
      let a = or_none _ _ p in
      let b = or_none _ _ a.1 in
      let c = or_none _ _ b.1 in
      empty_sound (eqb-true _ _ (not-false _ a.0)) (ltb-false _ _ b.0) (ltb-false _ _ c.0)
      ((tells_all no_file _ (λ f. (f.readable ≤ 1) × (f.offset + f.len ≤ length s.bytes)) (λ f. tells_both (tells_le f.readable 1) (tells_le (f.offset + f.len) (length s.bytes))) files).yes (not-false _ c.1))

  -- what start leaves where it succeeds is sound
  pub start_sound : (calls.start s files).answer ≡ Ok tt → Sound (calls.start s files).state
  unfolding calls.start start_refusals first_of
  start_sound e = started (bad_lengths s files) refl e
