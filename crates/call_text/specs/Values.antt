-- The values of a call's operands, word after word of its form.
use Rattle.std.specs.Prelude.{cond, List, [], ◌∷◌, ℕ, ◌+◌, leb, replicate, set, Result, Ok}
use Rattle.call_text.specs.declared.asked.Fault.{Fault}
use Rattle.call_text.specs.declared.operand.Read.{Read}
use Rattle.call_text.specs.declared.operand.Read.TheVariants.{One, Two}
use Rattle.call_text.specs.declared.values.Values.{Values}
use Rattle.call_text.specs.Faults.{and_then}
use Rattle.call_text.specs.Operand.{operand_at}
use Rattle.call_text.specs.WordList.{codes, text_of, nth_in}

-- none yet, from a place on
abbrev pub begun : ℕ → Values
begun next = record { list = replicate 10 0; count = 0; next = next }

-- the first value alone
abbrev pub again : Values → Values
again v = record { list = v.list; count = 1; next = v.next }

-- one value more; ten are kept
unfoldable pub pushed : ℕ → ℕ → Values → Values
pushed value next v =
    cond (leb 10 v.count) v (record { list = set v.list v.count value; count = v.count + 1; next = next })

abbrev pub taking : Values → Read → Values
taking v (One value next) = pushed value next v
taking v (Two first second next) = pushed second next (pushed first next v)

-- with the operand of a letter; a fault ends the line
unfoldable pub with_operand : List ℕ → Values → ℕ → Result Values Fault
with_operand s v letter = and_then (λ (r : Read). Ok (taking v r)) (operand_at s v.next letter)

-- with the operands of a form
unfoldable pub values_in : List ℕ → Values → List ℕ → Result Values Fault
values_in s v [] = Ok v
values_in s v (letter ∷ form) = and_then (λ (w : Values). values_in s w form) (with_operand s v letter)

-- with those of the form at a place of a list of forms
unfoldable pub read_in : List ℕ → Values → List ℕ → ℕ → Result Values Fault
read_in s v forms place = values_in s v (text_of forms (nth_in forms place))

-- the forms of the four kinds of creation, from the place on where the region is to start, and those of the names (Parse)
unfoldable pub form_in : List ℕ → Values → ℕ → Result Values Fault
form_in s v place =
    read_in s v (codes "@0ZFCT @1ZFCT @ZFCTfol @Z SZ L SL SL SLA 0 RH N 0 PK SZ P PD P PSE PSE PD P PDW PDLW P PDQ PQ PDF PD PD PD PDB") place
