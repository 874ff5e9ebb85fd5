-- The ways through a `file` line.
use Rattle.std.specs.Prelude.{◌≡◌, Bool, true, false, cond, List, ℕ, ◌+◌, ◌-◌, ◌*◌, ◌/◌, ◌≤◌, ◌<◌, length, get_or, set, drop, ltb, leb}
use Rattle.std.proofs.Common.{sym, ap, ◌∙◌, arith, length-drop, length-take-le}
use borrow.Author.Tests.{le-leb, lt-leb, lt-ltb, le-ltb}
use Rattle.laws.specs.RowsLaws.{rows_length, rows_at}
use Rattle.frames.specs.PutBytes.{put_at}
use Rattle.text.specs.declared.words.Word.{Word}
use Rattle.call_text.specs.declared.asked.Why.TheVariants as why
use Rattle.call_text.specs.WordList.{text_of, InList}
use Rattle.answer_text.specs.declared.answer.Answer.TheVariants.{Count}
use Rattle.script_step.specs.declared.said.Said.TheVariants as said
use Rattle.script_step.specs.declared.machine.Machine.{Machine}
use Rattle.script_step.specs.declared.said.Stepped.{Stepped}
use Rattle.script_step.specs.FileStep.{faulty, byte_of, bytes_of, in_line, spelled, with_file, filed}

-- ---- the bytes

pub bytes_length : (digits : List ℕ) → length (bytes_of digits) ≡ length digits / 2
unfolding bytes_of
bytes_length digits = rows_length _ (length digits / 2)

pub byte_at_is : (digits : List ℕ) (i : ℕ) → i < length digits / 2 → byte_of (get_or digits (2 * i) 0) (get_or digits (2 * i + 1) 0) ≡ get_or (bytes_of digits) i 0
unfolding bytes_of
byte_at_is digits i h = sym (rows_at (λ i. byte_of (get_or digits (2 * i) 0) (get_or digits (2 * i + 1) 0)) (length digits / 2) i 0 h)

module _ (n : ℕ) (w : Word) where
  pub past_line : n < w.to → record { from = 0; to = 0 } ≡ in_line n w
  unfolding in_line
  past_line h = rw (lt-ltb n w.to h)

  pub turned : w.to ≤ n → w.to < w.from → record { from = 0; to = 0 } ≡ in_line n w
  unfolding in_line
  turned h k = rw (le-ltb n w.to h, lt-ltb w.to w.from k)

  pub lies_in : w.to ≤ n → w.from ≤ w.to → w ≡ in_line n w
  unfolding in_line
  lies_in h k = rw (le-ltb n w.to h, le-ltb w.to w.from k)

-- ---- the row

pub with_file_as : (m : Machine) (readable : Bool) (n flag : ℕ) → flag ≡ cond readable 1 0
    → record {
      started = false;
      frames = m.frames;
      files = m.files + 1;
      bytes = m.bytes + n;
      rows = set (set (set m.rows (m.files * 3) flag) (m.files * 3 + 1) m.bytes) (m.files * 3 + 2) n;
    }
    ≡ with_file m readable n
with_file_as m readable n flag e = rw e

-- ---- the line

yes_cond : {A : Type 0} (t : Bool) (r x y : A) → t ≡ true → r ≡ x → r ≡ cond t x y
yes_cond t r x y e p = p ∙ sym (ap (λ (b : Bool). cond b x y) e)

no_cond : {A : Type 0} (t : Bool) (r x y : A) → t ≡ false → r ≡ y → r ≡ cond t x y
no_cond t r x y e p = p ∙ sym (ap (λ (b : Bool). cond b x y) e)

text_length : (line : List ℕ) (w : Word) → InList (length line) w → length (text_of line w) ≡ w.to - w.from
text_length line w i = length-take-le (w.to - w.from) (drop w.from line) (omega (arith, length-drop w.from line, i.ends))

module _ (m : Machine) (readable : Bool) (line : List ℕ) (digits : Word) (files : List ℕ) where
  pub filed_late : m.started ≡ true → (r : Stepped Machine) → r ≡ faulty m why.FilesFirst → (r, files) ≡ filed m readable (spelled line digits) files
  unfolding filed
  filed_late e r q = yes_cond m.started _ _ _ e (ap (λ (x : Stepped Machine). (x, files)) q)

  module _ (new : m.started ≡ false) where
    pub filed_many : 8 ≤ m.files → (r : Stepped Machine) → r ≡ faulty m why.TooManyFiles → (r, files) ≡ filed m readable (spelled line digits) files
    unfolding filed
    filed_many h r q = no_cond m.started _ _ _ new (yes_cond (leb 8 m.files) _ _ _ (le-leb 8 m.files h) (ap (λ (x : Stepped Machine). (x, files)) q))

    module _ (few : m.files < 8) (w : Word) (is : w ≡ in_line (length line) digits) (lies : InList (length line) w) where
      spells : length (spelled line digits) ≡ (w.to - w.from) / 2
      spells =
          ap (λ (x : Word). length (bytes_of (text_of line x))) (sym is) ∙ bytes_length (text_of line w) ∙ ap (λ (x : ℕ). x / 2) (text_length line w lies)

      pub filed_long : length files - m.bytes < (w.to - w.from) / 2 → (r : Stepped Machine) → r ≡ faulty m why.TooManyBytes → (r, files) ≡ filed m readable (spelled line digits) files
      unfolding filed
      filed_long h r q =
          no_cond m.started _ _ _ new
          (no_cond (leb 8 m.files) _ _ _ (lt-leb 8 m.files few)
          (yes_cond (ltb (length files - m.bytes) (length (spelled line digits))) _ _ _ (ap (ltb (length files - m.bytes)) spells ∙ lt-ltb (length files - m.bytes) ((w.to - w.from) / 2) h)
          (ap (λ (x : Stepped Machine). (x, files)) q)))

      pub filed_is : (w.to - w.from) / 2 ≤ length files - m.bytes → (b : List ℕ) → b ≡ put_at files m.bytes (bytes_of (text_of line w))
          → (q : Machine) → q ≡ with_file m readable ((w.to - w.from) / 2)
          → (record { said = said.Answer (Count m.files); after = q }, b) ≡ filed m readable (spelled line digits) files
      unfolding filed
      filed_is h b p q e =
          rw (new, lt-leb 8 m.files few, spells, le-ltb (length files - m.bytes) ((w.to - w.from) / 2) h, e, p, ← is)
