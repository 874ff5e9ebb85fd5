-- `refused`: one arm for each call.
use mathlib.Core.Path.{ap, sym}
use Rattle.model.specs.Meant.{refused}
use Rattle.step.proofs.answer.refused.Goals as goal

pub returns-in-Sound : goal.returns-in-Sound
unfolding refused
returns-in-Sound c = ap (λ x. refused x c.args.why) (sym c.in-Sound.is)

pub returns-in-Open : goal.returns-in-Open
unfolding refused
returns-in-Open c = ap (λ x. refused x c.args.why) (sym c.in-Open.is)

pub returns-in-Close : goal.returns-in-Close
unfolding refused
returns-in-Close c = ap (λ x. refused x c.args.why) (sym c.in-Close.is)

pub returns-in-CreatePrivate : goal.returns-in-CreatePrivate
unfolding refused
returns-in-CreatePrivate c = ap (λ x. refused x c.args.why) (sym c.in-CreatePrivate.is)

pub returns-in-CreateFile : goal.returns-in-CreateFile
unfolding refused
returns-in-CreateFile c = ap (λ x. refused x c.args.why) (sym c.in-CreateFile.is)

pub returns-in-CreateShared : goal.returns-in-CreateShared
unfolding refused
returns-in-CreateShared c = ap (λ x. refused x c.args.why) (sym c.in-CreateShared.is)

pub returns-in-Remove : goal.returns-in-Remove
unfolding refused
returns-in-Remove c = ap (λ x. refused x c.args.why) (sym c.in-Remove.is)

pub returns-in-Clear : goal.returns-in-Clear
unfolding refused
returns-in-Clear c = ap (λ x. refused x c.args.why) (sym c.in-Clear.is)

pub returns-in-Carve : goal.returns-in-Carve
unfolding refused
returns-in-Carve c = ap (λ x. refused x c.args.why) (sym c.in-Carve.is)

pub returns-in-Covers : goal.returns-in-Covers
unfolding refused
returns-in-Covers c = ap (λ x. refused x c.args.why) (sym c.in-Covers.is)

pub returns-in-Region : goal.returns-in-Region
unfolding refused
returns-in-Region c = ap (λ x. refused x c.args.why) (sym c.in-Region.is)

pub returns-in-Regions : goal.returns-in-Regions
unfolding refused
returns-in-Regions c = ap (λ x. refused x c.args.why) (sym c.in-Regions.is)

pub returns-in-Fault : goal.returns-in-Fault
unfolding refused
returns-in-Fault c = ap (λ x. refused x c.args.why) (sym c.in-Fault.is)

pub returns-in-Populate : goal.returns-in-Populate
unfolding refused
returns-in-Populate c = ap (λ x. refused x c.args.why) (sym c.in-Populate.is)

pub returns-in-Eager : goal.returns-in-Eager
unfolding refused
returns-in-Eager c = ap (λ x. refused x c.args.why) (sym c.in-Eager.is)

pub returns-in-CloneRegion : goal.returns-in-CloneRegion
unfolding refused
returns-in-CloneRegion c = ap (λ x. refused x c.args.why) (sym c.in-CloneRegion.is)

pub returns-in-Clone : goal.returns-in-Clone
unfolding refused
returns-in-Clone c = ap (λ x. refused x c.args.why) (sym c.in-Clone.is)

pub returns-in-Protect : goal.returns-in-Protect
unfolding refused
returns-in-Protect c = ap (λ x. refused x c.args.why) (sym c.in-Protect.is)

pub returns-in-Pin : goal.returns-in-Pin
unfolding refused
returns-in-Pin c = ap (λ x. refused x c.args.why) (sym c.in-Pin.is)

pub returns-in-Unpin : goal.returns-in-Unpin
unfolding refused
returns-in-Unpin c = ap (λ x. refused x c.args.why) (sym c.in-Unpin.is)

pub returns-in-Load : goal.returns-in-Load
unfolding refused
returns-in-Load c = ap (λ x. refused x c.args.why) (sym c.in-Load.is)

pub returns-in-Store : goal.returns-in-Store
unfolding refused
returns-in-Store c = ap (λ x. refused x c.args.why) (sym c.in-Store.is)
