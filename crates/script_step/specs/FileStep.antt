-- A `file` line: which bytes the file has, where they stand, and what its row says.
use Rattle.std.specs.Prelude.{Bool, false, cond, List, ℕ, ◌+◌, ◌-◌, ◌*◌, ◌/◌, ◌%◌, ltb, leb, length, get_or, set}
use Rattle.laws.specs.Rows.{rows}
use Rattle.frames.specs.PutBytes.{put_at}
use Rattle.text.specs.declared.words.Word.{Word}
use Rattle.text.specs.Numeral.{digit_of}
use Rattle.call_text.specs.declared.asked.Why.{Why}
use Rattle.call_text.specs.declared.asked.Why.TheVariants as why
use Rattle.call_text.specs.Faults.{whole_fault}
use Rattle.call_text.specs.WordList.{text_of}
use Rattle.answer_text.specs.declared.answer.Answer.TheVariants.{Count}
use Rattle.script_step.specs.declared.said.Said.{Said}
use Rattle.script_step.specs.declared.said.Said.TheVariants as said
use Rattle.script_step.specs.declared.machine.Machine.{Machine}
use Rattle.script_step.specs.declared.said.Stepped.{Stepped}

abbrev pub says : Machine → Said → Stepped Machine
says m s = record { said = s; after = m }

abbrev pub faulty : Machine → Why → Stepped Machine
faulty m because = says m (said.Fault (whole_fault because))

-- ---- the bytes

-- two hexadecimal digits a byte, the high one first
abbrev pub byte_of : ℕ → ℕ → ℕ
byte_of high low = digit_of high % 16 * 16 + digit_of low % 16

unfoldable pub bytes_of : List ℕ → List ℕ
bytes_of digits = rows (λ i. byte_of (get_or digits (2 * i) 0) (get_or digits (2 * i + 1) 0)) (length digits / 2)

-- a word that lies in a line of so many bytes, and an empty one for one that does not
unfoldable pub in_line : ℕ → Word → Word
in_line n w = cond (ltb n w.to) (record { from = 0; to = 0 }) (cond (ltb w.to w.from) (record { from = 0; to = 0 }) w)

-- the bytes that a word of a line spells
abbrev pub spelled : List ℕ → Word → List ℕ
spelled line w = bytes_of (text_of line (in_line (length line) w))

-- ---- the file

-- one file more, of n bytes behind those of the files before: three words say whether it can be read, where its bytes begin and how many they are
abbrev pub with_file : Machine → Bool → ℕ → Machine
with_file m readable n =
    record {
      started = false;
      frames = m.frames;
      files = m.files + 1;
      bytes = m.bytes + n;
      rows = set (set (set m.rows (m.files * 3) (cond readable 1 0)) (m.files * 3 + 1) m.bytes) (m.files * 3 + 2) n;
    }

-- what the line says, the machine after it, and the memory of files' bytes: files are lent before the machine is started, 8 at most, and as
-- many bytes as there is memory for; the answer is the file's number
unfoldable pub filed : Machine → Bool → (bytes files : List ℕ) → Stepped Machine × List ℕ
filed m readable bytes files =
    cond m.started (faulty m why.FilesFirst, files)
    (cond (leb 8 m.files) (faulty m why.TooManyFiles, files)
    (cond (ltb (length files - m.bytes) (length bytes)) (faulty m why.TooManyBytes, files)
    (record { said = said.Answer (Count m.files); after = with_file m readable (length bytes) }, put_at files m.bytes bytes)))
