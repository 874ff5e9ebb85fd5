-- `frames::zero` meets its contract: a frame's worth of zeros at its place. Assumes nothing.
use mathlib.Core.Path.{ap, ◌∙◌}
use Prim.Native.Nat.{ℕ}
use lib.ListN.{replicate, length-replicate}
use Rattle.frames.specs.PutBytes.{put_at}
use Rattle.frames.specs.FrameLaws.{put_frame_is}
use Rattle.frames.proofs.zero.Goals as goal

pub returns : goal.returns
returns c =
    let here = c.first_byte.ensures in
    c.put_zeros.ensures
    ∙ ap (λ (k : ℕ). put_at c.args.frames.now k (replicate 4096 0)) here
    ∙ put_frame_is c.args.frames.now c.args.f.0 (replicate 4096 0) (length-replicate {A = ℕ} 4096 0)
