use native.Mathlib.Omega.{arith}
use lib.ListN.{length}
use borrow.Author.Tests.{le-leb, lt-leb}
use Rattle.numbers.specs.Numbers.{laid}
use Rattle.numbers.proofs.lay.Goals as goal

pub returns-then-out-values-clause-out_after : goal.returns-then-out-values-clause-out_after
unfolding laid
returns-then-out-values-clause-out_after c =
    let e = lt-leb (length c.args.values.now) (length c.args.out.now) c.if-out-values.true in rw e

pub returns-clause-out_after : goal.returns-clause-out_after
unfolding laid
returns-clause-out_after c =
    let e = le-leb (length c.args.values.now) (length c.args.out.now) (omega arith) in rw (e, c.copy_from_slice.ensures.after)
