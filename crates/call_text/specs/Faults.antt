-- What is wrong with a line: with an operand, by its letter, with a word, or with the line as a whole.
use Rattle.std.specs.Prelude.{ℕ, Result, Ok, Err}
use Rattle.text.specs.declared.words.Word.{Word}
use Rattle.call_text.specs.declared.asked.Fault.{Fault}
use Rattle.call_text.specs.declared.asked.Why.{Why}

abbrev pub fault_of : Why → ℕ → Word → Fault
fault_of why letter w = record { why = why; what = letter; word = w }

abbrev pub word_fault : Why → Word → Fault
word_fault why w = fault_of why 0 w

abbrev pub whole_fault : Why → Fault
whole_fault why = word_fault why (record { from = 0; to = 0 })

-- what follows where there is no fault
abbrev pub and_then : {A B : Type 0} → (A → Result B Fault) → Result A Fault → Result B Fault
and_then f (Ok x) = f x
and_then f (Err fault) = Err fault
