-- `is_bad_range`: the size passes its limits, or the place decides.
use Rattle.create.specs.RequestRefusedLaws.{range_size, range_fits, range_place}
use borrow.Author.Rules.{rules}
use Rattle.create.proofs.refusals.is_bad_range.Goals as goal

pub returns-then-is_bad_size : goal.returns-then-is_bad_size
returns-then-is_bad_size c = range_size c.args.place c.args.region _ c.is_bad_size.ensures c.if-is_bad_size.true

pub is_bad_place-requires : goal.is_bad_place-requires
is_bad_place-requires c = let fits = range_fits c.args.place c.args.region _ c.is_bad_size.ensures c.if-is_bad_size.false in search rules

pub returns : goal.returns
returns c = range_place c.args.place c.args.region _ c.is_bad_size.ensures c.if-is_bad_size.false _ c.is_bad_place.ensures
