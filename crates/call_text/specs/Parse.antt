-- What a line asks for: comments and blank lines, the call's name, its values, and the call that they make.
use Rattle.std.specs.Prelude.{cond, List, [], ◌∷◌, ℕ, ◌+◌, ◌-◌, eqb, ltb, length, get_or, take, Option, Some, None, Result, Ok, Err}
use Rattle.model.specs.declared.Call.{Call}
use Rattle.text.specs.declared.lines.Held.{Held}
use Rattle.text.specs.declared.words.Word.{Word}
use Rattle.text.specs.Lines.{without_return}
use Rattle.text.specs.LineWords.{word_at}
use Rattle.call_words.specs.CallOf.{call_of}
use Rattle.call_text.specs.declared.asked.Asked.{Asked}
use Rattle.call_text.specs.declared.asked.Fault.{Fault}
use Rattle.call_text.specs.declared.asked.Asked.TheVariants as asked
use Rattle.call_text.specs.declared.asked.LoneCall.TheVariants as lone
use Rattle.call_text.specs.declared.asked.Why.TheVariants as why
use Rattle.call_text.specs.declared.values.Values.{Values}
use Rattle.call_text.specs.Faults.{word_fault, whole_fault, and_then}
use Rattle.call_text.specs.Values.{begun, again, form_in}
use Rattle.call_text.specs.WordList.{codes, text_of, none, place_in}

-- ---- what the values of a call ask for

-- the call of the machine; what it does not have is no call
unfoldable pub machine_of : Word → Option Call → Result Asked Fault
machine_of name (Some call) = Ok (asked.Machine call)
machine_of name None = Err (word_fault why.UnknownCall name)

-- the machine's numbers, in the order of forms; 0 where the call is none of the machine's, or has a kind
abbrev pub numbers : List ℕ
numbers =
    4 ∷ 4 ∷ 5 ∷ 6 ∷ 0 ∷ 0 ∷ 0 ∷ 0 ∷ 0 ∷ 0 ∷ 0 ∷ 0 ∷ 0 ∷ 0 ∷ 2 ∷ 3 ∷ 7 ∷ 8 ∷ 9 ∷ 10 ∷ 11 ∷ 12 ∷ 13 ∷ 14 ∷ 15 ∷ 16 ∷ 17 ∷ 18 ∷ 19 ∷ 20 ∷ 21 ∷ 22 ∷ []

unfoldable pub number_of : ℕ → ℕ
number_of place = get_or numbers place 0

-- those that are not, in the order of names
abbrev pub others : ℕ → ℕ → ℕ → List (Result Asked Fault)
others a b c =
    Ok (asked.Lone (lone.Manager a b))
    ∷ Ok (asked.Lone (lone.Reserve a))
    ∷ Ok (asked.Lone (lone.Mark a b))
    ∷ Ok (asked.Lone (lone.Release a b))
    ∷ Ok (asked.Lone (lone.Split a b c))
    ∷ Ok (asked.Lone lone.Segments)
    ∷ Ok (asked.File (eqb a 1) (record { from = b; to = c }))
    ∷ Ok (asked.Start a)
    ∷ Ok asked.State
    ∷ []

-- by the place of its form
unfoldable pub asked_of : Word → ℕ → List ℕ → Result Asked Fault
asked_of name place v =
    cond (ltb place 4) (machine_of name (call_of (number_of place) v))
    (get_or (others (get_or v 0 0) (get_or v 1 0) (get_or v 2 0)) (place - 4) (machine_of name (call_of (number_of place) v)))

-- if no word is left in the line
unfoldable pub finished_in : List ℕ → Word → ℕ → Values → Result Asked Fault
finished_in s name place v =
    cond (none (word_at s v.next)) (asked_of name place v.list) (Err (word_fault why.TooManyWords (word_at s v.next)))

-- ---- the name

abbrev pub names : List ℕ
names =
    codes "manager reserve mark release split segments file start state create open close remove clear carve covers region regions fault populate eager clone_region clone protect pin unpin load store"

unfoldable pub name_of : List ℕ → Option ℕ
name_of word = place_in names 28 word

-- forms have the four kinds of creation before the names; the second of a creation's values is its kind, which says the form of what is left
abbrev pub created_in : List ℕ → Word → Values → Result Asked Fault
created_in s name v = and_then (λ (w : Values). finished_in s name (get_or v.list 1 0) w) (form_in s (again v) (get_or v.list 1 0))

unfoldable pub call_named : List ℕ → Word → ℕ → Result Asked Fault
call_named s w name =
    and_then (λ (v : Values). cond (eqb (name + 4) 13) (created_in s w v) (finished_in s w (name + 4) v)) (form_in s (begun w.to) (name + 4))

abbrev pub called : List ℕ → Word → Option ℕ → Result Asked Fault
called s w (Some name) = call_named s w name
called s w None = Err (word_fault why.UnknownCall w)

-- ---- the line

-- a line with no word, or one that begins with `#`, asks for nothing
unfoldable pub call_in : List ℕ → Result Asked Fault
call_in s =
    cond (eqb (length s) 0) (Ok asked.Nothing)
    (cond (eqb (get_or s 0 0) 35) (Ok asked.Nothing)
    (cond (none (word_at s 0)) (Ok asked.Nothing)
    (called s (word_at s 0) (name_of (text_of s (word_at s 0))))))

-- a fault is asked for too: it is told
abbrev pub told : Result Asked Fault → Asked
told (Ok a) = a
told (Err fault) = asked.Bad fault

-- the line that is held, without a carriage return at its end
unfoldable pub held_call : List ℕ → Held → Asked
held_call s held = cond held.long (asked.Bad (whole_fault why.LongLine)) (told (call_in (take (without_return (take held.len s)) s)))
