-- Both at once where there is room, else one after the other.
use native.Mathlib.Omega.{arith}
use lib.ListN.{length-set}
use Rattle.put.proofs.Chain.{two-room, two_digits}
use Rattle.put.proofs.put_two.Goals as goal

pub bounds-out-at-then-at-out : goal.bounds-out-at-then-at-out
bounds-out-at-then-at-out c = simp length-set (omega arith)

pub returns-then-at-out : goal.returns-then-at-out
returns-then-at-out c = rw (c.digit-tens.ensures, c.digit-units.ensures)
    (two-room c.args.at c.args.v
    c.args.out.now (omega arith))

pub returns : goal.returns
returns c =
    two_digits c.args.v (rw c.digit-tens.ensures at c.put-a.ensures) (rw c.digit-units.ensures at c.put.ensures)
