-- The lengths of the three numbers; each is at most five.
use native.Mathlib.Omega.{arith}
use lib.ListN.{length-append}
use Rattle.index_sevens.proofs.Groups.{sevens-most}
use Rattle.index.specs.Index.{entry_bytes}
use Rattle.index.proofs.Ranges.{skip_is}
use Rattle.index.proofs.size.Goals as goal

pub overflow_add-result : goal.overflow_add-result
overflow_add-result c = omega (
  arith,
  c.size-skip.ensures,
  c.size.ensures,
  sevens-most c.less-3.result,
  sevens-most c.args.e.length,
)

pub overflow_add-result-2 : goal.overflow_add-result-2
overflow_add-result-2 c = omega (
  arith,
  c.size-gap.ensures,
  c.size-skip.ensures,
  c.size.ensures,
  sevens-most c.less.result,
  sevens-most c.less-3.result,
  sevens-most c.args.e.length,
)

pub returns : goal.returns
unfolding entry_bytes
returns c = let skip = skip_is c.args.e
    c.args.last c.less-2.ensures
    c.less-3.ensures in
    rw (c.size-gap.ensures, c.size-skip.ensures, c.size.ensures, length-append, length-append)
    (rw (c.less.ensures, skip))
