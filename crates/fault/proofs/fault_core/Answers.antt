-- `fault_core`: no region is named, or the fault is handled there.
use Rattle.std.proofs.lemmas.Result.{err_from_is_err_and}
use Rattle.lookup.specs.NamedLaws.{named_slot, named_no}
use Rattle.fault.specs.HandledLaws.{fault_refused, fault_fits, fault_done}
use borrow.Author.Rules.{rules}
use Rattle.fault.proofs.fault_core.Goals as goal

pub returns-in_err-slot : goal.returns-in_err-slot
returns-in_err-slot c =
    let p = err_from_is_err_and c.from_residual.result c.from_residual.ensures.1 in
    rw (p.1, p.2) (fault_refused _ _ _ c.requires.files_value _ _ c.args.write _ (named_no _ _ _ _ c.region_named.ensures c.in_err-slot.was))

pub handle_fault-requires : goal.handle_fault-requires
handle_fault-requires c = let named = named_slot _ _ _ _ c.region_named.ensures c.in_ok-slot.was in record { words_len = search rules; fault_fits = fault_fits _ _ _ c.requires.files_value _ c.args.addr.0 c.args.write named.0 _ named.1 _ c.containing_address-page.ensures }

pub returns : goal.returns
returns c = let named = named_slot _ _ _ _ c.region_named.ensures c.in_ok-slot.was in fault_done _ _ _ c.requires.files_value _ c.args.addr.0 c.args.write named.0 _ named.1 _ c.containing_address-page.ensures _ _ _ c.handle_fault.ensures
