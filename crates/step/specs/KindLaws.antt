-- Laws of `Kind`: kind, number and values settle an answer (RULES H2).
use Rattle.std.specs.Prelude.{◌≡◌, ℕ, cond, List, [], ◌∷◌, ◌==◌, slice_index, slice_index_or, Result, Ok, Err, ⊤, true, false}
use Rattle.std.specs.Prelude.{refl}
use Rattle.std.proofs.Common.{ap, sym, ◌∙◌}
use Rattle.answers.specs.declared.Refusal.{Refusal}
use Rattle.answers.specs.declared.Refusal.TheVariants.{BadTable, NoProcess, BadAddress, BadRange, BadFlags, NoFile, NoRegion, NoSpace, SegmentReserved, InvalidSplitPoint, NotReserved, NotAccessible, NotWritable, OutOfMemory, ReadFailed, MapFailed, UnsupportedRegion, EagerBacking, Shared, InUse, TableFull, Denied}
use Rattle.answers.specs.Number.{number_of}
use Rattle.model.specs.declared.Answer.{Answer}
use Rattle.model.specs.declared.Answer.TheVariants as says
use Rattle.model.specs.Answers.{Reply, of_done}
use Rattle.model.specs.Meant.{reply}
use Rattle.step.specs.Kind.{Kind, done, opened, placed, covering, loaded, counted, kind_of}

-- ---- numbers

abbrev dones : List (Result ⊤ Refusal)
dones =
    Ok tt
    ∷ Err BadTable
    ∷ Err NoProcess
    ∷ Err BadAddress
    ∷ Err BadRange
    ∷ Err BadFlags
    ∷ Err NoFile
    ∷ Err NoRegion
    ∷ Err NoSpace
    ∷ Err SegmentReserved
    ∷ Err InvalidSplitPoint
    ∷ Err NotReserved
    ∷ Err NotAccessible
    ∷ Err NotWritable
    ∷ Err OutOfMemory
    ∷ Err ReadFailed
    ∷ Err MapFailed
    ∷ Err UnsupportedRegion
    ∷ Err EagerBacking
    ∷ Err Shared
    ∷ Err InUse
    ∷ Err TableFull
    ∷ Err Denied
    ∷ []

-- what a number says
unfoldable done_of : ℕ → Result ⊤ Refusal
done_of n = slice_index_or dones n (Ok tt)

number_back : (r : Refusal) → done_of (number_of r) ≡ Err r
unfolding done_of
number_back BadTable = refl
number_back NoProcess = refl
number_back BadAddress = refl
number_back BadRange = refl
number_back BadFlags = refl
number_back NoFile = refl
number_back NoRegion = refl
number_back NoSpace = refl
number_back SegmentReserved = refl
number_back InvalidSplitPoint = refl
number_back NotReserved = refl
number_back NotAccessible = refl
number_back NotWritable = refl
number_back OutOfMemory = refl
number_back ReadFailed = refl
number_back MapFailed = refl
number_back UnsupportedRegion = refl
number_back EagerBacking = refl
number_back Shared = refl
number_back InUse = refl
number_back TableFull = refl
number_back Denied = refl

done_back : (d : Result ⊤ Refusal) → done_of (of_done d).number ≡ d
unfolding done_of
done_back (Ok tt) = refl
done_back (Err r) = number_back r

-- ---- answers

-- granted, with what is told then, or refused
abbrev by : {A : Type 0} → A → (Refusal → A) → Result ⊤ Refusal → A
by granted refusal (Ok tt) = granted
by granted refusal (Err r) = refusal r

-- the answer of a kind that has a number and values
unfoldable answer_of : Kind → Reply → Answer
answer_of done y = says.Done (done_of y.number)
answer_of opened y = says.Opened (by (Ok (slice_index y.values 0)) Err (done_of y.number))
answer_of placed y = says.Placed (by (Ok (record { 0 = slice_index y.values 0 })) Err (done_of y.number))
answer_of covering y = says.Covering (by (cond (slice_index y.values 0 == 1) (Ok true) (Ok false)) Err (done_of y.number))
answer_of loaded y = says.Loaded (by (Ok (slice_index y.values 0)) Err (done_of y.number))
answer_of counted y = says.Counted (record { done = done_of y.number; count = slice_index y.values 0 })

answer_back : (x : Answer) (l : List ℕ) → answer_of (kind_of x) (reply x l) ≡ x
unfolding answer_of kind_of reply done_of
answer_back (says.Done r) l = ap says.Done (done_back r)
answer_back (says.Opened (Ok p)) l = refl
answer_back (says.Opened (Err r)) l = ap (λ d. says.Opened (by (Ok 0) Err d)) (number_back r)
answer_back (says.Placed (Ok a)) l = refl
answer_back (says.Placed (Err r)) l = ap (λ d. says.Placed (by (Ok (record { 0 = 0 })) Err d)) (number_back r)
answer_back (says.Covering (Ok true)) l = refl
answer_back (says.Covering (Ok false)) l = refl
answer_back (says.Covering (Err r)) l = ap (λ d. says.Covering (by (Ok false) Err d)) (number_back r)
answer_back (says.Loaded (Ok b)) l = refl
answer_back (says.Loaded (Err r)) l = ap (λ d. says.Loaded (by (Ok 0) Err d)) (number_back r)
answer_back (says.Counted r) l = ap (λ d. says.Counted (record { done = d; count = r.count })) (done_back r.done)

-- no two answers of one kind tell the same
pub one_answer : (x y : Answer) (l m : List ℕ) → kind_of x ≡ kind_of y → reply x l ≡ reply y m → x ≡ y
one_answer x y l m k e = sym (answer_back x l) ∙ ((λ i. answer_of (k i) (e i)) ∙ answer_back y m)
