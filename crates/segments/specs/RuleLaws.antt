-- The rule of a manager's table: the test in one pass tells the proposition.
use Rattle.std.specs.Prelude.{◌≡◌, refl, ◌⊎◌, List, [], ◌∷◌, ◌≤◌, ◌<◌, Result, Ok, Err, ⊤}
use Rattle.std.proofs.Common.{sym, ap, inl, inr, arith}
use mathlib.Core.Bool.{Bool, true, false, not}
use Rattle.answers.specs.declared.Refusal.{Refusal}
use Rattle.laws.specs.Tells.{Tells}
use Rattle.laws.specs.TellsLaws.{tells_of, tells_both}
use Rattle.segment.specs.declared.Segment.{Segment}
use Rattle.segments.specs.declared.table.VirtualMemoryManager.{VirtualMemoryManager}
use Rattle.segments.specs.declared.table.Reach.{Reach}
use Rattle.segment.specs.Form.{start_of, last_of, emptyb, form_of, done, Before}
use Rattle.segment.specs.FormLaws.{before_tells}
use Rattle.laws.specs.TestLaws.{tells_eq, tells_lt, tells_le, tells_or, tells_as}
use Rattle.segments.specs.Table.{held, arena, reach_with, in_order, followsb, walk, no_segment, no_reach, soundb, All, Pairs, Formed, Apart, Rule}
use Rattle.segment_search.specs.TriesLaws.{by_test}

-- ---- all rows of a list

pub all_zip : {P Q R : Segment → Type 0} → ((x : Segment) → P x → Q x → R x) → (t : List Segment) → All P t → All Q t → All R t
all_zip f [] p q = tt
all_zip f (x ∷ t) p q = (f x p.0 q.0, all_zip f t p.1 q.1)

pub all_map : {P Q : Segment → Type 0} → ((x : Segment) → P x → Q x) → (t : List Segment) → All P t → All Q t
all_map f [] p = tt
all_map f (x ∷ t) p = (f x p.0, all_map f t p.1)

pub all_every : {P : Segment → Type 0} → ((x : Segment) → P x) → (t : List Segment) → All P t
all_every f [] = tt
all_every f (x ∷ t) = (f x, all_every f t)

-- ---- list order

pub before_trans : (a b c : Segment) → Before a b → Before b c → Before a c
before_trans a b c (inl p) (inl q) = inl (omega arith)
before_trans a b c (inl p) (inr q) = inl (omega arith)
before_trans a b c (inr p) (inl q) = inl (omega arith)
before_trans a b c (inr p) (inr q) = inr (omega arith, omega arith)

-- ---- form

pub formed_tells : (s : Segment) → Tells (done (form_of s)) (Formed s)
formed_tells s = tells_of (done (form_of s)) (back (form_of s)) (λ e. ap done e)
  where
    back : (a : Result ⊤ Refusal) → done a ≡ true → a ≡ Ok tt
    back (Ok tt) e = refl
    back (Err r) e = absurd (mathlib.Core.Bool.false≢true e)

-- ---- one pass

-- after the row before, if there is one
abbrev After : Bool → Segment → Segment → Type 0
After started prev x = started ≡ true → Before prev x

-- above all that is held so far
abbrev Above : Reach → Segment → Type 0
Above r x = (x.len ≡ 0) ⊎ ((r.any ≡ false) ⊎ (r.last < start_of x))

record Follows (r : Reach) (started : Bool) (prev s : Segment) : Type 0 where
  formed : Formed s
  after : After started prev s
  above : Above r s

record Walked (t : List Segment) (started : Bool) (prev : Segment) (r : Reach) : Type 0 where
  formed : All Formed t
  after : All (After started prev) t
  above : All (Above r) t
  apart : Pairs Apart t

after_tells : (started : Bool) (prev s : Segment) → Tells (in_order started prev s) (After started prev s)
after_tells true prev s = tells_as (λ b e. b) (λ f. f refl) (before_tells prev s)
after_tells false prev s = record { yes = λ e f. absurd (mathlib.Core.Bool.false≢true f); no = λ e. absurd (mathlib.Core.Bool.true≢false e) }

false_tells : (b : Bool) → Tells (not b) (b ≡ false)
false_tells true = record { yes = λ e. sym e; no = λ e f. mathlib.Core.Bool.true≢false f }
false_tells false = record { yes = λ e. refl; no = λ e f. mathlib.Core.Bool.true≢false e }

follows_tells : (r : Reach) (started : Bool) (prev s : Segment) → Tells (followsb r started prev s) (Follows r started prev s)
follows_tells r started prev s =
    tells_as (λ p. record { formed = p.0; after = p.1.0; above = p.1.1 }) (λ f. (f.formed, (f.after, f.above)))
    (tells_both (formed_tells s) (tells_both (after_tells started prev s) (tells_or (tells_eq s.len 0) (tells_or (false_tells r.any) (tells_lt r.last (start_of s))))))

-- a row s that follows, and a later one x: x is above all with s, if it is above all without s and apart from s
module _ (r : Reach) (s x : Segment) where
  above_with : Above r x → Apart s x → Above (reach_with r s) x
  above_with a p = by_test (emptyb s) (λ e. rw e a) (λ n. rw n (clear n p.clear))
    where
      clear : emptyb s ≡ false → (s.len ≡ 0) ⊎ ((x.len ≡ 0) ⊎ (last_of s < start_of x)) → (x.len ≡ 0) ⊎ ((true ≡ false) ⊎ (last_of s < start_of x))
      clear n (inl z) = absurd ((tells_eq s.len 0).no n z)
      clear n (inr (inl z)) = inl z
      clear n (inr (inr l)) = inr (inr l)

  above_without : Above r s → Above (reach_with r s) x → Above r x
  above_without b a = by_test (emptyb s) (λ e. rw e at a) (λ n. over n b (rw n at a))
    where
      over : emptyb s ≡ false → Above r s → (x.len ≡ 0) ⊎ ((true ≡ false) ⊎ (last_of s < start_of x)) → Above r x
      over n b (inl z) = inl z
      over n b (inr (inl f)) = absurd (mathlib.Core.Bool.true≢false f)
      over n (inl z) (inr (inr l)) = absurd ((tells_eq s.len 0).no n z)
      over n (inr (inl z)) (inr (inr l)) = inr (inl z)
      over n (inr (inr k)) (inr (inr l)) = inr (inr (omega arith))

  apart_above : Before s x → Above (reach_with r s) x → Apart s x
  apart_above b a = record { order = b; clear = by_test (emptyb s) (λ e. inl ((tells_eq s.len 0).yes e)) (λ n. over (rw n at a)) }
    where
      over : (x.len ≡ 0) ⊎ ((true ≡ false) ⊎ (last_of s < start_of x)) → (s.len ≡ 0) ⊎ ((x.len ≡ 0) ⊎ (last_of s < start_of x))
      over (inl z) = inr (inl z)
      over (inr (inl f)) = absurd (mathlib.Core.Bool.true≢false f)
      over (inr (inr l)) = inr (inr l)

walk_tells : (t : List Segment) (started : Bool) (prev : Segment) (r : Reach) → Tells (walk t started prev r) (Walked t started prev r)
unfolding walk
walk_tells [] started prev r = record { yes = λ e. record { formed = tt; after = tt; above = tt; apart = tt }; no = λ e. absurd (mathlib.Core.Bool.true≢false e) }
walk_tells (s ∷ t) started prev r = tells_as join split (tells_both (follows_tells r started prev s) (walk_tells t true s (reach_with r s)))
  where
    join : Follows r started prev s × Walked t true s (reach_with r s) → Walked (s ∷ t) started prev r
    join p =
        record {
          formed = (p.0.formed, p.1.formed);
          after = (p.0.after, all_map (λ x b e. before_trans prev s x (p.0.after e) (b refl)) t p.1.after);
          above = (p.0.above, all_map (λ x a. above_without r s x p.0.above a) t p.1.above);
          apart = (all_zip (λ x b a. apart_above r s x (b refl) a) t p.1.after p.1.above, p.1.apart);
        }

    split : Walked (s ∷ t) started prev r → Follows r started prev s × Walked t true s (reach_with r s)
    split w = (
      record { formed = w.formed.0; after = w.after.0; above = w.above.0 },
      record {
        formed = w.formed.1;
        after = all_map (λ x a e. a.order) t w.apart.0;
        above = all_zip (λ x a p. above_with r s x a p) t w.above.1 w.apart.0;
        apart = w.apart.1;
      },
    )

-- the rule of a lone manager's table (RULES S12) is what the test tells
pub sound_tells : (m : VirtualMemoryManager) → Tells (soundb m) (Rule m)
unfolding soundb
sound_tells m = tells_as join split (tells_both (formed_tells (arena m)) (tells_both (tells_le m.count 64) (walk_tells (held m) false no_segment no_reach)))
  where
    join : Formed (arena m) × ((m.count ≤ 64) × Walked (held m) false no_segment no_reach) → Rule m
    join p = record { arena_formed = p.0; counted = p.1.0; formed = p.1.1.formed; apart = p.1.1.apart }

    split : Rule m → Formed (arena m) × ((m.count ≤ 64) × Walked (held m) false no_segment no_reach)
    split u = (u.arena_formed, (u.counted, record { formed = u.formed; after = all_every (λ x e. absurd (mathlib.Core.Bool.false≢true e)) (held m); above = all_every (λ x. inr (inl refl)) (held m); apart = u.apart }))
