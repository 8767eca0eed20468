-- Where all lies low enough no sum wraps, and the tests are those of the definition.
use native.Mathlib.Omega.{arith}
use Rattle.index.proofs.Ranges.{all-low, fits-high, fits_low}
use Rattle.index.proofs.fits.Goals as goal

pub returns-then-last-e : goal.returns-then-last-e
returns-then-last-e c = fits-high c.args.last c.args.e c.if-last-e.true

pub overflow_add-result : goal.overflow_add-result
overflow_add-result c = let low = all-low c.args.last.offset
    c.args.last.length
    c.args.e.offset c.if-last-e.false in
    omega (arith, low.0, low.1.0)

pub overflow_sub-result : goal.overflow_sub-result
overflow_sub-result c = (all-low c.args.last.offset c.args.last.length
    c.args.e.offset
    c.if-last-e.false).1.1

pub returns : goal.returns
returns c = fits_low c.args.last c.args.e
    (all-low c.args.last.offset c.args.last.length c.args.e.offset
    c.if-last-e.false).1.1
