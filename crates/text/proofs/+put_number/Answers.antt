use Rattle.put.proofs.Chain.{◌⨾◌, as-text}
use Rattle.text.proofs.Digits.{last-digit, digits-before}
use Rattle.text.proofs.+put_number.Goals as goal

pub returns-then-n-lt10 : goal.returns-then-n-lt10
returns-then-n-lt10 t c = as-text (last-digit c.args.n c.if-n-lt10.true) (rw c.digit.ensures at c.put.ensures)

pub returns : goal.returns
returns t c =
    as-text (digits-before c.args.n c.if-n-lt10.false c.ranges.n.fits)
    (c.put_number-a.ensures ⨾ (rw c.digit-2.ensures at c.put-2.ensures))
