-- Laws of `Lists`: elements, what is kept, what is filled up, runs of stores, a part of a table.
use Rattle.std.specs.Prelude.{◌≡◌, refl, Bool, true, false, cond, List, [], ◌∷◌, ◌++◌, map, ℕ, zero, suc, ◌+◌, ◌-◌, ◌*◌, ◌≤◌, ◌<◌, length, get_or, set, take, drop, replicate}
use Rattle.std.proofs.Common.{ap, sym, ◌∙◌, append_assoc, zero-le, suc-le-suc, le_of_suc-le-suc, not-suc-le-zero, arith, take-append-drop, length-append, length-take, length-drop, get_or-set_other, drop-set-lt, drop-drop, length-take-le, get_or-take, get_or-drop, take_at, drop_at}
use Rattle.std.proofs.lemmas.List.Edits.{sets, sets-eq}
use Rattle.std.proofs.Math.Seq.{take-set-lt}
use Rattle.std.proofs.lemmas.List.{take-set-le, drop-set-add}
use Rattle.laws.specs.Lists.{part, put_part, pad, keep, all, up_from}
use Rattle.laws.specs.Tests.{Rows}
use Rattle.laws.specs.BoolLaws.{both_true, and_both}

pub map_at : {A B : Type 0} (f : A → B) (l : List A) (i : ℕ) (d : A) (e : B) → i < length l → get_or (map f l) i e ≡ f (get_or l i d)
map_at f [] i d e h = absurd (not-suc-le-zero h)
map_at f (x ∷ l) zero d e h = refl
map_at f (x ∷ l) (suc i) d e h = map_at f l i d e (le_of_suc-le-suc h)

pub past_append : {A : Type 0} (xs ys : List A) (k n : ℕ) (d : A) → length xs ≡ n → n ≤ k → get_or (xs ++ ys) k d ≡ get_or ys (k - n) d
past_append [] ys k n d e h = let z : k ≡ k - n = omega arith in ap (λ (i : ℕ). get_or ys i d) z
past_append (x ∷ xs) ys zero n d e h = absurd (omega arith)
past_append (x ∷ xs) ys (suc k) zero d e h = absurd (omega arith)
past_append (x ∷ xs) ys (suc k) (suc n) d e h = let z : k - n ≡ suc k - suc n = omega arith in past_append xs ys k n d (omega arith) (omega arith) ∙ ap (λ (i : ℕ). get_or ys i d) z

pub up_length : (a n : ℕ) → length (up_from a n) ≡ n
unfolding up_from
up_length a zero = refl
up_length a (suc n) = ap suc (up_length (a + 1) n)

pub all_both : {A : Type 0} (f : A → Bool) (l m : List A) → all f l ≡ true → all f m ≡ true → all f (l ++ m) ≡ true
unfolding all
all_both f [] m p q = q
all_both f (x ∷ l) m p q = let t = both_true (f x) _ p in and_both t.0 (all_both f l m t.1 q)

-- ---- what is kept

pub keep_append : {A : Type 0} (f : A → Bool) (l k : List A) → keep f (l ++ k) ≡ keep f l ++ keep f k
unfolding keep
keep_append f [] k = refl
keep_append f (x ∷ l) k = go (f x) (keep_append f l k)
  where
    go : (b : Bool) → keep f (l ++ k) ≡ keep f l ++ keep f k → cond b (x ∷ keep f (l ++ k)) (keep f (l ++ k)) ≡ cond b (x ∷ keep f l) (keep f l) ++ keep f k
    go true h = ap (λ t. x ∷ t) h
    go false h = h

-- no more pass than there are
pub keep_most : {A : Type 0} (f : A → Bool) (l : List A) → length (keep f l) ≤ length l
unfolding keep
keep_most f [] = omega arith
keep_most f (x ∷ l) = go (f x) (keep_most f l)
  where
    go : (b : Bool) → length (keep f l) ≤ length l → length (cond b (x ∷ keep f l) (keep f l)) ≤ suc (length l)
    go true h = omega arith
    go false h = omega arith

pub keep_all : {A : Type 0} (f : A → Bool) → ((x : A) → f x ≡ true) → (l : List A) → keep f l ≡ l
unfolding keep
keep_all f h [] = refl
keep_all f h (x ∷ l) = rw (h x) (ap (λ t. x ∷ t) (keep_all f h l))

-- ---- what is filled up

pub pad_length : {A : Type 0} (n : ℕ) (d : A) (l : List A) → length (pad n d l) ≡ n
unfolding pad
pad_length zero d l = refl
pad_length (suc n) d [] = ap suc (pad_length n d [])
pad_length (suc n) d (x ∷ l) = ap suc (pad_length n d l)

pub pad_at : {A : Type 0} (n : ℕ) (d : A) (l : List A) (i : ℕ) → i < n → get_or (pad n d l) i d ≡ get_or l i d
unfolding pad
pad_at zero d l i h = absurd (not-suc-le-zero h)
pad_at (suc n) d [] zero h = refl
pad_at (suc n) d [] (suc i) h = pad_at n d [] i (le_of_suc-le-suc h)
pad_at (suc n) d (x ∷ l) zero h = refl
pad_at (suc n) d (x ∷ l) (suc i) h = pad_at n d l i (le_of_suc-le-suc h)

pub take_pad : {A : Type 0} (n : ℕ) (d : A) (l : List A) → length l ≤ n → take (length l) (pad n d l) ≡ l
unfolding pad
take_pad zero d [] h = refl
take_pad zero d (x ∷ l) h = absurd (not-suc-le-zero h)
take_pad (suc n) d [] h = refl
take_pad (suc n) d (x ∷ l) h = ap (λ t. x ∷ t) (take_pad n d l (le_of_suc-le-suc h))

pad_none : {A : Type 0} (n : ℕ) (d : A) → replicate n d ≡ pad n d []
unfolding pad
pad_none zero d = refl
pad_none (suc n) d = ap (λ t. d ∷ t) (pad_none n d)

-- a list filled up goes on with what fills it
pub pad_rest : {A : Type 0} (n : ℕ) (d : A) (l : List A) → length l ≤ n → l ++ replicate (n - length l) d ≡ pad n d l
unfolding pad
pad_rest n d [] h = ap (λ (k : ℕ). replicate k d) (let e : n - 0 ≡ n = omega arith in e) ∙ pad_none n d
pad_rest zero d (x ∷ l) h = absurd (not-suc-le-zero h)
pad_rest (suc n) d (x ∷ l) h = ap (λ t. x ∷ t) (ap (λ (k : ℕ). l ++ replicate k d) (let e : suc n - suc (length l) ≡ n - length l = omega arith in e) ∙ pad_rest n d l (le_of_suc-le-suc h))

-- .. or with what the filled list had there
pub fill_pad : {A : Type 0} (n : ℕ) (d : A) (l : List A) → length l ≤ n → l ++ drop (length l) (replicate n d) ≡ pad n d l
unfolding pad
fill_pad zero d [] h = refl
fill_pad zero d (x ∷ l) h = absurd (not-suc-le-zero h)
fill_pad (suc n) d [] h = pad_none (suc n) d
fill_pad (suc n) d (x ∷ l) h = ap (λ t. x ∷ t) (fill_pad n d l (le_of_suc-le-suc h))

-- one more of a list's elements put where the filling begins
pub pad_more : {A : Type 0} (n : ℕ) (d : A) (l : List A) (i : ℕ) → i < length l → i < n → set (pad n d (take i l)) i (get_or l i d) ≡ pad n d (take (suc i) l)
unfolding pad
pad_more n d [] i h k = absurd (not-suc-le-zero h)
pad_more zero d (x ∷ l) i h k = absurd (not-suc-le-zero k)
pad_more (suc n) d (x ∷ l) zero h k = refl
pad_more (suc n) d (x ∷ l) (suc i) h k = ap (λ t. x ∷ t) (pad_more n d l i (le_of_suc-le-suc h) (le_of_suc-le-suc k))

-- past the list only the filling stands
pub pad_past : {A : Type 0} (d : A) (k : ℕ) (l : List A) → Rows d (drop (length l) (pad k d l)) (λ i x. x ≡ d)
unfolding pad
pad_past d zero [] i h = absurd (not-suc-le-zero h)
pad_past d zero (x ∷ l) i h = absurd (not-suc-le-zero h)
pad_past d (suc k) [] zero h = refl
pad_past d (suc k) [] (suc i) h = pad_past d k [] i (le_of_suc-le-suc h)
pad_past d (suc k) (x ∷ l) i h = pad_past d k l i h

-- the first n of a list, filled up, where only the filling follows them
pub pad_take : {A : Type 0} (d : A) (l : List A) (n : ℕ) → Rows d (drop n l) (λ i x. x ≡ d) → pad (length l) d (take n l) ≡ l
unfolding pad
pad_take d [] zero f = refl
pad_take d [] (suc n) f = refl
pad_take d (x ∷ l) zero f = let first = sym (f zero (suc-le-suc zero-le)) in λ i. first i ∷ pad_take d l zero (λ j h. f (suc j) (suc-le-suc h)) i
pad_take d (x ∷ l) (suc n) f = ap (λ t. x ∷ t) (pad_take d l n f)

-- one more after the first n of a list that goes on with zeros
pub pad_last : (l : List ℕ) (n s : ℕ) → n < length l → Rows 0 (drop n l) (λ i x. x ≡ 0) → pad (length l) 0 (take n l ++ (s ∷ [])) ≡ set l n s
unfolding pad
pad_last [] n s h z = absurd (not-suc-le-zero h)
pad_last (x ∷ l) zero s h z = ap (λ t. s ∷ t) (pad_take 0 l 0 (λ i k. z (suc i) (suc-le-suc k)))
pad_last (x ∷ l) (suc n) s h z = ap (λ t. x ∷ t) (pad_last l n s (le_of_suc-le-suc h) z)

-- ---- runs of stores

-- one run of stores after the other
pub sets_append : {A : Type 0} (l : List A) (i : ℕ) (v u : List A) → sets l i (v ++ u) ≡ sets (sets l i v) (i + length v) u
sets_append l i [] u = ap (λ (j : ℕ). sets l j u) (let e : i ≡ i + 0 = omega arith in e)
sets_append l i (x ∷ v) u = sets_append (set l i x) (suc i) v u ∙ ap (λ (j : ℕ). sets (sets (set l i x) (suc i) v) j u) (let e : suc i + length v ≡ i + suc (length v) = omega arith in e)

-- what stands after a run of stores stays
pub sets_after : {A : Type 0} (l : List A) (i : ℕ) (v : List A) (j : ℕ) (d : A) → i + length v ≤ j → get_or (sets l i v) j d ≡ get_or l j d
sets_after l i [] j d h = refl
sets_after l i (x ∷ v) j d h = sets_after (set l i x) (suc i) v j d (omega arith) ∙ get_or-set_other l i j x d (omega arith)

-- ---- parts of a table

-- a part is as long as it is to be, and row i of it is row p * n + i of the table
pub part_length : {A : Type 0} (l : List A) (n p : ℕ) → p * n + n ≤ length l → length (part n p l) ≡ n
unfolding part
part_length l n p h = length-take-le n (drop (p * n) l) (rw length-drop (omega arith))

pub part_at : {A : Type 0} (l : List A) (n p i : ℕ) (d : A) → i < n → get_or (part n p l) i d ≡ get_or l (p * n + i) d
unfolding part
part_at l n p i d h = get_or-take n (drop (p * n) l) i d h ∙ get_or-drop (p * n) l i d

pub part_put : {A : Type 0} (n p : ℕ) (new l : List A) → length new ≡ n → p * n ≤ length l → part n p (put_part n p new l) ≡ new
unfolding part put_part
part_put n p new l h k = ap (take n) (drop_at (take (p * n) l) _ (p * n) (length-take-le (p * n) l k)) ∙ take_at new _ n h

pub put_part_length : {A : Type 0} (n p : ℕ) (new l : List A) → length new ≡ n → p * n + n ≤ length l → length (put_part n p new l) ≡ length l
unfolding put_part
put_part_length n p new l e h = simp (length-append, length-take, length-drop) (omega arith)

-- a table with one of its parts put where it stands
pub put_same : {A : Type 0} (n p : ℕ) (l : List A) → put_part n p (part n p l) l ≡ l
unfolding part put_part
put_same n p l =
    ap (λ t. take (p * n) l ++ (take n (drop (p * n) l) ++ t)) (sym (drop-drop n (p * n) l))
    ∙ ap (λ t. take (p * n) l ++ t) (take-append-drop n (drop (p * n) l))
    ∙ take-append-drop (p * n) l

-- rows put twice are the ones put last
pub put_part_again : {A : Type 0} (n p : ℕ) (a b l : List A) → length a ≡ n → p * n + n ≤ length l → put_part n p b (put_part n p a l) ≡ put_part n p b l
unfolding put_part
put_part_again n p a b l long h =
    let front : List _ = take (p * n) l in
    let back : List _ = drop (p * n + n) l in
    let k : length front ≡ p * n = length-take-le (p * n) l (omega arith) in
    let both : drop (p * n + n) (front ++ (a ++ back)) ≡ back = sym (drop-drop n (p * n) (front ++ (a ++ back))) ∙ ap (drop n) (drop_at front (a ++ back) (p * n) k) ∙ drop_at a back n long in
    ap (λ t. t ++ (b ++ drop (p * n + n) (front ++ (a ++ back)))) (take_at front (a ++ back) (p * n) k) ∙ ap (λ t. front ++ (b ++ t)) both

-- one row of a part changed is one row of the table
pub put_set : {A : Type 0} (n p : ℕ) (l : List A) (i : ℕ) (a : A) → i < n → put_part n p (set (part n p l) i a) l ≡ set l (p * n + i) a
unfolding part put_part
put_set n p l i a h =
    sym (λ k. take-set-le (p * n) l (p * n + i) a (omega arith) k ++ ((ap (take n) (drop-set-add (p * n) l i a) ∙ take-set-lt n (drop (p * n) l) i a h) k ++ drop-set-lt (p * n + n) l (p * n + i) a (omega arith) k))
    ∙ put_same n p (set l (p * n + i) a)

-- a whole part stored row by row
pub sets_part : {A : Type 0} (n p : ℕ) (new l : List A) → length new ≡ n → p * n + n ≤ length l → sets l (p * n) new ≡ put_part n p new l
unfolding put_part
sets_part n p new l e h = sets-eq new l (p * n) (omega arith) ∙ append_assoc (take (p * n) l) new (drop (p * n + length new) l) ∙ ap (λ (k : ℕ). take (p * n) l ++ (new ++ drop (p * n + k) l)) e
