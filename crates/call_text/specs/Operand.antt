-- The operands of a call: what a word of the line says, by the operand's letter.
--
--   S START   Z SIZE   L LEN   A AT   P P   D ADDR   E END   N FRAMES   F FLAGS   f FILE   o OFFSET   l LENGTH   Q Q   B BYTE
--   C copy or cow   T thread or -   W r or w   R readable or unreadable   K a kind of region   @ START or any   H HEXBYTES
--   0 and 1: these values, and no word
use Rattle.std.specs.Prelude.{Bool, ◌&&◌, cond, List, ℕ, ◌%◌, eqb, ltb, length, Option, Some, None, Result, Ok, Err}
use Rattle.std.specs.Str.{bytes_eq}
use Prim.Native.Char.{Char, code}
use Rattle.text.specs.declared.number.NumberError.{NumberError}
use Rattle.text.specs.declared.number.NumberError.TheVariants as number
use Rattle.text.specs.declared.words.Word.{Word}
use Rattle.text.specs.Numeral.{digitsb, number_in}
use Rattle.text.specs.LineWords.{word_at}
use Rattle.call_text.specs.declared.asked.Fault.{Fault}
use Rattle.call_text.specs.declared.asked.Why.{Why}
use Rattle.call_text.specs.declared.asked.Why.TheVariants as why
use Rattle.call_text.specs.declared.operand.Read.{Read}
use Rattle.call_text.specs.declared.operand.Read.TheVariants.{One, Two}
use Rattle.call_text.specs.Faults.{fault_of}
use Rattle.call_text.specs.WordList.{codes, text_of, none, place_in}

abbrev pub wrong : Why → ℕ → Word → Result Read Fault
wrong because letter w = Err (fault_of because letter w)

abbrev pub is : ℕ → Char → Bool
is letter c = eqb letter (code c)

-- ---- what a word says, w, whose text is t

-- a number: a start has 1 before it, and a byte is not above 255
unfoldable pub valued : ℕ → Word → ℕ → Result Read Fault
valued letter w v =
    cond (is letter "@") (Ok (Two 1 v w.to))
    (cond (ltb v 256) (Ok (One v w.to))
    (cond (is letter "B") (wrong why.NoByte letter w)
    (Ok (One v w.to))))

abbrev pub numbered : ℕ → Word → Result ℕ NumberError → Result Read Fault
numbered letter w (Ok v) = valued letter w v
numbered letter w (Err number.TooLarge) = wrong why.TooLarge letter w
numbered letter w (Err number.NoNumber) = wrong why.NoNumber letter w

unfoldable pub number_says : ℕ → Word → List ℕ → Result Read Fault
number_says letter w t = numbered letter w (number_in t)

-- one of the first `count` words of a list, by its place
abbrev pub listed : ℕ → Word → Option ℕ → Result Read Fault
listed letter w (Some place) = Ok (One place w.to)
listed letter w None = wrong why.Neither letter w

unfoldable pub one_of : ℕ → Word → List ℕ → List ℕ → ℕ → Result Read Fault
one_of letter w t list count = listed letter w (place_in list count t)

-- where a region is to start: 0 for `any`, or 1 and the start
unfoldable pub spot_says : Word → List ℕ → Result Read Fault
spot_says w t = cond (bytes_eq t (codes "any")) (Ok (Two 0 0 w.to)) (number_says (code "@") w t)

-- two hexadecimal digits a byte, in either case
unfoldable pub bytesb : List ℕ → Bool
bytesb s = eqb (length s % 2) 0 && digitsb 16 s

-- bytes, as the place of their digits
abbrev pub digits_in : Word → Result Read Fault
digits_in w = Ok (Two w.from w.to w.to)

unfoldable pub digits_say : Word → List ℕ → Result Read Fault
digits_say w t = cond (bytesb t) (digits_in w) (wrong why.NoBytes (code "H") w)

-- flags are 1 for copy, thread, w and readable
unfoldable pub word_says : ℕ → Word → List ℕ → Result Read Fault
word_says letter w t =
    cond (is letter "C") (one_of letter w t (codes "cow copy") 2)
    (cond (is letter "T") (one_of letter w t (codes "- thread") 2)
    (cond (is letter "W") (one_of letter w t (codes "r w") 2)
    (cond (is letter "R") (one_of letter w t (codes "unreadable readable") 2)
    (cond (is letter "K") (one_of letter w t (codes "lazy eager file shared") 4)
    (cond (is letter "@") (spot_says w t)
    (cond (is letter "H") (digits_say w t)
    (number_says letter w t)))))))

-- ---- the operand of a letter, from `at` on

-- an empty file has no bytes; all else must be there
abbrev pub missing : ℕ → Word → Result Read Fault
missing letter w = cond (is letter "H") (digits_in w) (wrong why.Missing letter w)

unfoldable pub operand_at : List ℕ → ℕ → ℕ → Result Read Fault
operand_at s at letter =
    cond (is letter "0") (Ok (One 0 at))
    (cond (is letter "1") (Ok (One 1 at))
    (cond (none (word_at s at)) (missing letter (word_at s at))
    (word_says letter (word_at s at) (text_of s (word_at s at)))))
