-- The answers for `read_digits`.
use Rattle.std.proofs.Common.{◌≡◌, Bool, true, false, Err, refl, sym, ◌∙◌, arith}
use Rattle.text.specs.Numeral.{digitsb, digits_in}
use Rattle.text.specs.NumeralLaws.{fitting_ok, fitting_err, none_read, no_digits, value_more, digits_left, digits_end, spoiled, all_read, too_large}
use Rattle.text.proofs.number.read_digits.Goals as goal

pub returns-then-is_empty : goal.returns-then-is_empty
returns-then-is_empty c = none_read c.args.base c.args.digits.now (cc)

pub returns-then-base-next : goal.returns-then-base-next
returns-then-base-next c =
    let a = c.args in
    let l = c.loop-byte in spoiled a.base a.digits.now l.byte-index c.digit-next.result (omega arith) c.digit-next.ensures l.invariant.left (cc) c.if-base-next.true

pub returns-in_default : goal.returns-in_default
returns-in_default c = go (digitsb c.args.base c.args.digits.now) refl
  where
    go : (t : Bool) → digitsb c.args.base c.args.digits.now ≡ t → c.too_large.result ≡ digits_in c.args.base c.args.digits.now
    go true e =
        let f = fitting_err _ c.in_default.field-0 (sym c.with_digit.ensures ∙ c.in_default.is) in
        c.too_large.ensures ∙ rw e (too_large c.args.base c.args.digits.now (cc) e c.loop-byte.value c.loop-byte.byte-index c.loop-byte.invariant.same (omega arith) (omega arith) (omega arith))
    go false e = c.too_large.ensures ∙ rw e (no_digits c.args.base c.args.digits.now (cc) e)

pub loop-byte-preserved : goal.loop-byte-preserved
loop-byte-preserved c =
    let a = c.args in
    let l = c.loop-byte in
    let w = c.with_digit in
    let f = fitting_ok _ c.in-Ok.more (sym w.ensures ∙ c.in-Ok.is) in
    let m = value_more a.base a.digits.now l.value l.byte-index (omega arith) in
    record { fits = omega arith; same = cc; left = digits_left a.base a.digits.now l.byte-index c.digit-next.result (omega arith) c.digit-next.ensures l.invariant.left c.if-base-next.false }

pub returns : goal.returns
returns c =
    let a = c.args in
    let l = c.loop-byte in
    all_read a.base a.digits.now (cc) (sym l.invariant.left ∙ digits_end a.base a.digits.now l.byte-index (omega arith)) l.value l.byte-index l.invariant.same (omega arith) (omega arith)
