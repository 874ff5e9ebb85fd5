-- Request 2026-02: how the Rust populates eagerly, for which regions both agree, and the two refusals that eager populate no longer gives.
use Rattle.std.specs.Prelude.{◌≡◌, Bool, true, not, ◌&&◌, ◌||◌, cond, List, [], ◌∷◌, ℕ, eqb, Result, Err, ⊤}
use Rattle.answers.specs.declared.Refusal.{Refusal}
use Rattle.answers.specs.declared.Refusal.TheVariants.{NotAccessible, NotWritable}
use Rattle.model.specs.declared.Region.{Region}
use Rattle.model.specs.Machine.{State, region_at, order_of}
use Rattle.model.specs.Answers.{Try, fine, and_then}
use Rattle.model.specs.Lookup.{is_private}
use Rattle.model.specs.Paging.{is_user, is_writable}
use Rattle.model.specs.Populate.{core_populate}

-- ---- the Rust: write access, on every Private CopyEager region

abbrev pub is_eager_copy : Region → Bool
is_eager_copy r = is_private r && eqb r.fork 1

unfoldable pub rust_eagerly : State → ℕ → ℕ → Try
rust_eagerly s p slot =
    let r = region_at s.machine p slot in
    let all = core_populate s p r.start.0 r.size true in
    cond (is_eager_copy r) all (fine s)

unfoldable pub rust_eagerly_each : List ℕ → State → ℕ → Try
rust_eagerly_each [] s p = fine s
rust_eagerly_each (slot ∷ l) s p = and_then (rust_eagerly s p slot) (λ t. rust_eagerly_each l t p)

unfoldable pub rust_eager : State → ℕ → Try
rust_eager s p = rust_eagerly_each (order_of s.machine p) s p

-- ---- the regions for which both agree: not copied eagerly, or with user access and writable

abbrev pub agreed : Region → Bool
agreed r = not (is_eager_copy r) || (is_user r.flags.0 && is_writable r.flags.0)

-- ---- what eager populate no longer answers

abbrev pub Allowed : Result ⊤ Refusal → Type 0
Allowed d = (d ≡ Err NotWritable → ⊥) × (d ≡ Err NotAccessible → ⊥)
