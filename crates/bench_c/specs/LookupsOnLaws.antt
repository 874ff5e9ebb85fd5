-- Laws of `LookupsOn`: lent words that are a machine's, and answers as numbers where they are not.
use Rattle.std.specs.Prelude.{◌≡◌, ℕ, ◌<◌, ◌≤◌, Bool, true, false, List, length, ◌≢◌, refl}
use borrow.Author.Tests.{eq-eqb, ne_eqb, lt-ltb, le-ltb}
use Rattle.laws.specs.BoolLaws.{clash}
use Rattle.model.specs.Machine.{Machine}
use Rattle.model.specs.Layout.{word_count, machine}
use Rattle.bench_c.specs.LookupsOn.{there_below, answer_if, Left}

module _ (n : ℕ) (words : List ℕ) (i : ℕ) where
  pub there : length words ≡ word_count → i < n → there_below n words i ≡ true
  unfolding there_below
  there e h = rw (eq-eqb (length words) word_count e, lt-ltb i n h)

  pub no_machine : (length words ≢ word_count) → there_below n words i ≡ false
  unfolding there_below
  no_machine e = rw (ne_eqb (length words) word_count e)

  pub past_last : length words ≡ word_count → n ≤ i → there_below n words i ≡ false
  unfolding there_below
  past_last e h = rw (eq-eqb (length words) word_count e, le-ltb i n h)

pub answered : (b : Bool) (r x d : ℕ) → b ≡ true → r ≡ x → r ≡ answer_if b x d
unfolding answer_if
answered b r x d p e = rw p e

pub unanswered : (b : Bool) (x d : ℕ) → b ≡ false → d ≡ answer_if b x d
unfolding answer_if
unanswered b x d p = rw p

pub left_changed : (b : Bool) (words words' : List ℕ) (m : Machine) → b ≡ true → machine words' ≡ m → Left b words words' m
left_changed b words words' m p e = record { changed = λ _. e; kept = λ q. clash p q }

pub left_kept : (b : Bool) (words : List ℕ) (m : Machine) → b ≡ false → Left b words words m
left_kept b words m p = record { changed = λ q. clash q p; kept = λ _. refl }
