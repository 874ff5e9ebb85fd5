-- `Refusal::number` is number_of: one line a variant.
use mathlib.Core.Path.{ap, sym}
use Rattle.answers.specs.Number.{number_of}
use Rattle.answers.proofs.Refusal.number.Goals as goal

pub returns-in-BadTable : goal.returns-in-BadTable
returns-in-BadTable c = ap number_of (sym c.in-BadTable.is)

pub returns-in-NoProcess : goal.returns-in-NoProcess
returns-in-NoProcess c = ap number_of (sym c.in-NoProcess.is)

pub returns-in-BadAddress : goal.returns-in-BadAddress
returns-in-BadAddress c = ap number_of (sym c.in-BadAddress.is)

pub returns-in-BadRange : goal.returns-in-BadRange
returns-in-BadRange c = ap number_of (sym c.in-BadRange.is)

pub returns-in-BadFlags : goal.returns-in-BadFlags
returns-in-BadFlags c = ap number_of (sym c.in-BadFlags.is)

pub returns-in-NoFile : goal.returns-in-NoFile
returns-in-NoFile c = ap number_of (sym c.in-NoFile.is)

pub returns-in-NoRegion : goal.returns-in-NoRegion
returns-in-NoRegion c = ap number_of (sym c.in-NoRegion.is)

pub returns-in-NoSpace : goal.returns-in-NoSpace
returns-in-NoSpace c = ap number_of (sym c.in-NoSpace.is)

pub returns-in-SegmentReserved : goal.returns-in-SegmentReserved
returns-in-SegmentReserved c = ap number_of (sym c.in-SegmentReserved.is)

pub returns-in-InvalidSplitPoint : goal.returns-in-InvalidSplitPoint
returns-in-InvalidSplitPoint c = ap number_of (sym c.in-InvalidSplitPoint.is)

pub returns-in-NotReserved : goal.returns-in-NotReserved
returns-in-NotReserved c = ap number_of (sym c.in-NotReserved.is)

pub returns-in-NotAccessible : goal.returns-in-NotAccessible
returns-in-NotAccessible c = ap number_of (sym c.in-NotAccessible.is)

pub returns-in-NotWritable : goal.returns-in-NotWritable
returns-in-NotWritable c = ap number_of (sym c.in-NotWritable.is)

pub returns-in-OutOfMemory : goal.returns-in-OutOfMemory
returns-in-OutOfMemory c = ap number_of (sym c.in-OutOfMemory.is)

pub returns-in-ReadFailed : goal.returns-in-ReadFailed
returns-in-ReadFailed c = ap number_of (sym c.in-ReadFailed.is)

pub returns-in-MapFailed : goal.returns-in-MapFailed
returns-in-MapFailed c = ap number_of (sym c.in-MapFailed.is)

pub returns-in-UnsupportedRegion : goal.returns-in-UnsupportedRegion
returns-in-UnsupportedRegion c = ap number_of (sym c.in-UnsupportedRegion.is)

pub returns-in-EagerBacking : goal.returns-in-EagerBacking
returns-in-EagerBacking c = ap number_of (sym c.in-EagerBacking.is)

pub returns-in-Shared : goal.returns-in-Shared
returns-in-Shared c = ap number_of (sym c.in-Shared.is)

pub returns-in-InUse : goal.returns-in-InUse
returns-in-InUse c = ap number_of (sym c.in-InUse.is)

pub returns-in-TableFull : goal.returns-in-TableFull
returns-in-TableFull c = ap number_of (sym c.in-TableFull.is)

pub returns-in-Denied : goal.returns-in-Denied
returns-in-Denied c = ap number_of (sym c.in-Denied.is)
