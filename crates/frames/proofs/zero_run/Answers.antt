-- `frames::zero_run` meets its contract: a run of zeros is each frame of it zeroed. Assumes nothing.
use mathlib.Core.Path.{ap, ◌∙◌}
use Prim.Native.Nat.{ℕ, ◌*◌}
use lib.ListN.{replicate}
use Rattle.frames.specs.PutBytes.{put_at}
use Rattle.frames.specs.FrameLaws.{zero_run}
use Rattle.frames.proofs.zero_run.Goals as goal

pub returns : goal.returns
returns c =
    let here = c.first_byte.ensures in
    c.put_zeros.ensures
    ∙ ap (λ (k : ℕ). put_at c.args.frames.now k (replicate (c.args.n * 4096) 0)) here
    ∙ zero_run c.args.n c.args.f.0 c.args.frames.now c.requires
