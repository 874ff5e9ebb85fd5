-- Holders counted again once a row is free.
use Rattle.std.specs.Prelude.{◌≡◌, Bool, false, cond, List, ℕ, ◌+◌, ◌<◌, length, get_or, set, eqb}
use Rattle.std.proofs.Common.{ap, arith}
use Rattle.model.specs.Sound.{Hold}
use Rattle.model.specs.HolderLaws.{holding_put}
use Rattle.model.specs.Holders.{one_if, holding, weight}

-- rows that hold where u says so, each as g says; d is a free row: set free, a row adds nothing any more
pub holding_set : {A : Type 0} (u : A → Bool) (g : A → Hold) (f : ℕ) (d : A) → u d ≡ false → (l : List A) (i : ℕ) → i < length l → holding u g f l ≡ holding u g f (set l i d) + weight u g f (get_or l i d)
holding_set u g f d none l i h =
    let light : weight u g f d ≡ 0 = ap (λ (b : Bool). cond b (one_if (eqb (g d).frame f)) 0) none in
    let put = holding_put u g f d l i d h in
    omega arith
