-- `set_protection` does the mapped rows, then puts the region's row.
use Rattle.model.specs.Layout.{machine}
use Rattle.protect.specs.ProtectsLaws.{protects}
use Rattle.protect.proofs.set_protection.Goals as goal

pub returns : goal.returns
returns c =
    let from = c.args in
    protects (machine from.words.now) from.process from.slot from.flags.0 _ c.region_in-region.ensures _ c.protect_rows.ensures _ c.with_flags.ensures _ c.put_region.ensures
