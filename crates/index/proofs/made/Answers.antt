-- Where the entry before lies low enough no sum wraps, and the tests are those of the definition.
use native.Mathlib.Omega.{arith}
use Rattle.index.proofs.Ranges.{all-low, made-high, made-fits, made-not}
use Rattle.index.proofs.made.Goals as goal

pub returns-then-last : goal.returns-then-last
returns-then-last c = made-high c.args.last c.args.gap
    c.args.skip c.args.length
    c.args.at c.if-last.true

pub overflow_add-number : goal.overflow_add-number
overflow_add-number c = let low = all-low c.args.last.number
    c.args.last.offset c.args.last.length
    c.if-last.false in omega (arith, low.0, c.requires.0)

pub overflow_add-offset : goal.overflow_add-offset
overflow_add-offset c = let low = all-low c.args.last.number
    c.args.last.offset
    c.args.last.length c.if-last.false in omega
    (arith, low.1.0, low.1.1)

pub overflow_add-offset-2 : goal.overflow_add-offset-2
overflow_add-offset-2 c = let low = all-low c.args.last.number
    c.args.last.offset
    c.args.last.length c.if-last.false in omega
    (arith, low.1.0, low.1.1, c.requires.1.0)

pub overflow_add-offset-3 : goal.overflow_add-offset-3
overflow_add-offset-3 c = let low = all-low c.args.last.number
    c.args.last.offset
    c.args.last.length c.if-last.false in omega (
      arith,
      low.1.0,
      low.1.1,
      c.requires.1.0,
      c.requires.1.1,
    )

pub returns-then-gap-number : goal.returns-then-gap-number
returns-then-gap-number c = made-fits c.args.last
    c.args.gap
    c.args.skip
    c.args.length
    c.args.at c.if-gap-number.true

pub returns : goal.returns
returns c = made-not c.args.last
    c.args.gap
    c.args.skip
    c.args.length
    c.args.at c.if-gap-number.false
