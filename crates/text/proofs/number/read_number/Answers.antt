-- `number::read_number` meets its contract: with `0x` in front and without.
use Rattle.text.specs.NumeralLaws.{hexadecimal, decimal}
use Rattle.text.proofs.number.read_number.Goals as goal

pub returns-in-Some : goal.returns-in-Some
returns-in-Some c =
    let p = c.in-Some.ensures.cases in
    hexadecimal _ _ p.0 _ p.1 c.read_digits.ensures

pub returns-in-None : goal.returns-in-None
returns-in-None c = decimal _ _ c.in-None.ensures.cases c.read_digits-in-None.ensures
