-- The search, one law for each way through the code of one try.
use Rattle.std.specs.Prelude.{◌≡◌, refl, Bool, List, ℕ, zero, suc, ◌+◌, ◌-◌, ◌≤◌, ◌<◌, Option, Some, None}
use Rattle.std.proofs.Math.Path.{ap, sym}
use Rattle.std.proofs.Common.{◌∙◌, arith, lt-ltb, le-ltb}
use Rattle.std.proofs.Math.Bool.{false}
use Rattle.segment.specs.declared.Segment.{Segment}
use Rattle.segment.specs.Form.{start_of}
use Rattle.segment_search.specs.Search.{first_over, ahead, try, tries, search}
use Rattle.segment_search.specs.TriesLaws.{tries_enough, ahead_falls, first_over_is}

-- no try from above the last byte finds a start
past : (n : ℕ) (t : List Segment) (last len start restarts : ℕ) → last < start → tries n t last len start restarts ≡ None
unfolding tries
past zero t last len start restarts h = refl
past (suc n) t last len start restarts h = ap (λ (b : Bool). try (tries n t last len) b (first_over t start (start + (len - 1))) start restarts) (lt-ltb last (start + (len - 1)) (omega arith))

module _ (t : List Segment) (last len start restarts : ℕ) where
  abbrev end : ℕ
  end = start + (len - 1)

  -- the arena's last byte lies below the try's
  pub search_late : last < end → None ≡ search t last len start restarts
  unfolding search tries
  search_late h = sym (ap (λ (b : Bool). try (tries (ahead t start) t last len) b (first_over t start end) start restarts) (lt-ltb last end h))

  module _ (fits : end ≤ last) where
    tried : (f : Option Segment) → f ≡ first_over t start end → search t last len start restarts ≡ try (tries (ahead t start) t last len) false f start restarts
    unfolding search tries
    tried f e =
        ap (λ (b : Bool). try (tries (ahead t start) t last len) b (first_over t start end) start restarts) (le-ltb last end fits)
        ∙ ap (λ x. try (tries (ahead t start) t last len) false x start restarts) (sym e)

    pub search_free : (f : Option Segment) → f ≡ first_over t start end → f ≡ None → Some (start, restarts) ≡ search t last len start restarts
    search_free f e n = sym (tried None (sym n ∙ e))

    module _ (f : Option Segment) (e : f ≡ first_over t start end) (s : Segment) (i : f ≡ Some s) where
      -- what is in the way begins in the arena
      pub way_begins : start_of s ≤ last
      way_begins = let o = (first_over_is start end t s (sym e ∙ i)).begins in omega arith

      -- past what is in the way there are fewer ahead
      pub way_falls : ahead t (start_of s + s.len) < ahead t start
      way_falls = ahead_falls start end t s (sym e ∙ i)

      -- it reaches the arena's last byte
      pub search_blocked : last - start_of s < s.len → None ≡ search t last len start restarts
      search_blocked h = sym (tried (Some s) (sym i ∙ e) ∙ past (ahead t start) t last len (start_of s + s.len) (restarts + 1) (let b = way_begins in omega arith))

      -- the search starts over
      pub search_again : search t last len (start_of s + s.len) (restarts + 1) ≡ search t last len start restarts
      unfolding search
      search_again = sym (tried (Some s) (sym i ∙ e) ∙ tries_enough t last len (ahead t start) (start_of s + s.len) (restarts + 1) way_falls)
