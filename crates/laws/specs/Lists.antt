-- Small functions on lists that the tables are read and written with.
use Rattle.std.specs.Prelude.{Bool, true, false, ◌&&◌, ◌||◌, cond, List, [], ◌∷◌, ◌++◌, ℕ, zero, suc, ◌+◌, ◌*◌, take, drop, eqb}

-- part p of a table that is cut into parts of n rows: the rows of one process
unfoldable pub part : {A : Type 0} → ℕ → ℕ → List A → List A
part n p l = take n (drop (p * n) l)

-- the table with part p replaced
unfoldable pub put_part : {A : Type 0} → ℕ → ℕ → List A → List A → List A
put_part n p new l = take (p * n) l ++ (new ++ drop (p * n + n) l)

-- the first n of a list, filled up with d
unfoldable pub pad : {A : Type 0} → ℕ → A → List A → List A
pad zero d l = []
pad (suc n) d [] = d ∷ pad n d []
pad (suc n) d (x ∷ l) = x ∷ pad n d l

-- those that pass a test, in their order
unfoldable pub keep : {A : Type 0} → (A → Bool) → List A → List A
keep f [] = []
keep f (x ∷ l) = let rest = keep f l in cond (f x) (x ∷ rest) rest

unfoldable pub all : {A : Type 0} → (A → Bool) → List A → Bool
all f [] = true
all f (x ∷ l) = f x && all f l

unfoldable pub any : {A : Type 0} → (A → Bool) → List A → Bool
any f [] = false
any f (x ∷ l) = f x || any f l

-- whether a number is in a list
abbrev pub among : ℕ → List ℕ → Bool
among n l = any (eqb n) l

-- every element of a list, one after the other
unfoldable pub each : {A S : Type 0} → (A → S → S) → List A → S → S
each f [] s = s
each f (x ∷ l) s = each f l (f x s)

-- n, n + 1, .., k of them
unfoldable pub up_from : ℕ → ℕ → List ℕ
up_from n zero = []
up_from n (suc k) = n ∷ up_from (n + 1) k

-- the first of a list, or d
abbrev pub first : {A : Type 0} → A → List A → A
first d [] = d
first d (x ∷ l) = x

-- how many rows pass a test
unfoldable pub count : {A : Type 0} → (A → Bool) → List A → ℕ
count f [] = 0
count f (x ∷ l) = let rest = count f l in cond (f x) (rest + 1) rest
