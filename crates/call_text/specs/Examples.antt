-- Lines and what they ask for, computed: a row for each call, each kind of line that asks for nothing, and each fault that a line's words can have.
use Rattle.std.specs.Prelude.{◌≡◌, refl, true, false, List, [], ◌∷◌, map, ℕ}
use Prim.Native.Char.{Char, code}
use Prim.Native.String.{String}
use Rattle.address.specs.declared.VirtAddr.{VirtAddr}
use Rattle.model.specs.declared.Call.{Call}
use Rattle.model.specs.declared.Call.TheVariants as call
use Rattle.model.specs.declared.Place.TheVariants as place
use Rattle.model.specs.declared.Population.TheVariants as population
use Rattle.model.specs.declared.ForkPolicy.TheVariants as fork
use Rattle.call_words.specs.CallOf.{place_of, population_of, fork_of, private_of, file_of, call_of}
use Rattle.text.specs.Numeral.{digit_of, digitsb, value_from, fitting, digits_in, number_in}
use Rattle.text.specs.LineWords.{blanks, letters, word_at}
use Rattle.call_text.specs.declared.asked.Asked.{Asked}
use Rattle.call_text.specs.declared.asked.Asked.TheVariants.{Nothing, Bad, Lone, File, Start, Machine, State}
use Rattle.call_text.specs.declared.asked.LoneCall.TheVariants as lone
use Rattle.call_text.specs.declared.asked.Why.{Why}
use Rattle.call_text.specs.declared.asked.Why.TheVariants as why
use Rattle.call_text.specs.Faults.{fault_of, word_fault}
use Rattle.call_text.specs.Operand.{valued, number_says, one_of, spot_says, bytesb, digits_say, word_says, operand_at}
use Rattle.call_text.specs.Parse.{machine_of, number_of, asked_of, finished_in, name_of, call_named, call_in, told}
use Rattle.call_text.specs.Values.{pushed, with_operand, values_in, read_in, form_in}
use Rattle.call_text.specs.WordList.{codes, place_from, nth_from}

pub record Row : Type 0 where
  pub line : String
  pub asks : Asked

abbrev pub row : String → Asked → Row
row line asks = record { line = line; asks = asks }

abbrev machine : String → Call → Row
machine line c = row line (Machine c)

abbrev addr : ℕ → VirtAddr
addr a = record { 0 = a }

-- an operand's fault, and a word's, which stands from one place up to another
abbrev operand : Why → Char → ℕ → ℕ → Asked
operand because letter from to = Bad (fault_of because (code letter) (record { from = from; to = to }))

abbrev word : Why → ℕ → ℕ → Asked
word because from to = Bad (word_fault because (record { from = from; to = to }))

abbrev pub rows : List Row
rows =
    row "manager 0x1000 4096" (Lone (lone.Manager 4096 4096))
    ∷ row "reserve 0x10" (Lone (lone.Reserve 16))
    ∷ row "mark 1 2" (Lone (lone.Mark 1 2))
    ∷ row "release 1 2" (Lone (lone.Release 1 2))
    ∷ row "split 1 2 3" (Lone (lone.Split 1 2 3))
    ∷ row "segments" (Lone lone.Segments)
    ∷ row "file readable 0aFF" (File true (record { from = 14; to = 18 }))
    ∷ row "file unreadable" (File false (record { from = 15; to = 15 }))
    ∷ row "start 256" (Start 256)
    ∷ row "state" State
    ∷ machine "open 1 2" (call.Open (addr 1) 2)
    ∷ machine "close 7" (call.Close 7)
    ∷ machine "create 7 lazy any 1 3 cow -" (call.CreatePrivate 7 place.Lowest population.Lazy 1 3 fork.CopyOnWrite false)
    ∷ machine "create 7 eager 0x20 1 3 copy thread" (call.CreatePrivate 7 (place.At (addr 32)) population.Eager 1 3 fork.CopyEager true)
    ∷ machine "create 7 file any 1 3 copy - 4 5 6" (call.CreateFile 7 place.Lowest 1 3 fork.CopyEager false 4 5 6)
    ∷ machine "create 7 shared 2 1" (call.CreateShared 7 (place.At (addr 2)) 1)
    ∷ machine "remove 1 2" (call.Remove 1 (addr 2))
    ∷ machine "clear 1" (call.Clear 1)
    ∷ machine "carve 1 2 3" (call.Carve 1 2 3)
    ∷ machine "covers 1 2 3" (call.Covers 1 2 3)
    ∷ machine "region 1 2" (call.Region 1 (addr 2))
    ∷ machine "regions 1" (call.Regions 1)
    ∷ machine "fault 1 2 w" (call.Fault 1 (addr 2) true)
    ∷ machine "populate 1 2 3 r" (call.Populate 1 (addr 2) 3 false)
    ∷ machine "eager 1" (call.Eager 1)
    ∷ machine "clone_region 1 2 3" (call.CloneRegion 1 (addr 2) 3)
    ∷ machine "clone 1 2" (call.Clone 1 2)
    ∷ machine "protect 1 2 3" (call.Protect 1 (addr 2) 3)
    ∷ machine "pin 1 2" (call.Pin 1 (addr 2))
    ∷ machine "unpin 1 2" (call.Unpin 1 (addr 2))
    ∷ machine "load 1 2" (call.Load 1 (addr 2))
    ∷ machine "store 1 2 255" (call.Store 1 (addr 2) 255)
    ∷ row "" Nothing
    ∷ row " \t" Nothing
    ∷ row "# mark" Nothing
    ∷ row "move 1" (word why.UnknownCall 0 4)
    ∷ row "mark 1" (operand why.Missing "L" 6 6)
    ∷ row "clone 1" (operand why.Missing "Q" 7 7)
    ∷ row "mark 0X1 2" (operand why.NoNumber "S" 5 8)
    ∷ row "mark 1 18446744073709551616" (operand why.TooLarge "L" 7 27)
    ∷ row "segments 1 2" (word why.TooManyWords 9 10)
    ∷ row "create 7 slow" (operand why.Neither "K" 9 13)
    ∷ row "create 7 lazy" (operand why.Missing "@" 13 13)
    ∷ row "create 7 lazy none" (operand why.NoNumber "@" 14 18)
    ∷ row "create 7 lazy any 1 3 Cow" (operand why.Neither "C" 22 25)
    ∷ row "create 7 lazy any 1 3 cow" (operand why.Missing "T" 25 25)
    ∷ row "fault 1 2 x" (operand why.Neither "W" 10 11)
    ∷ row "store 1 2 256 3" (operand why.NoByte "B" 10 13)
    ∷ row "file readable 012" (operand why.NoBytes "H" 14 17)
    ∷ row "file readable 0g" (operand why.NoBytes "H" 14 16)
    ∷ []

pub computed : map (λ (r : Row). told (call_in (codes r.line))) rows ≡ map (λ (r : Row). r.asks) rows
unfolding digit_of digitsb value_from fitting digits_in number_in blanks letters word_at codes place_from nth_from valued number_says one_of spot_says bytesb digits_say word_says operand_at pushed with_operand values_in read_in form_in place_of population_of fork_of private_of file_of call_of machine_of number_of asked_of finished_in name_of call_named call_in
computed = refl
