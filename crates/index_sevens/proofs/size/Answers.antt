use Prim.Native.Nat.{◌-◌}
use mathlib.Core.Path.{◌≡◌}
use native.Mathlib.Omega.{arith}
use lib.ListN.{length}
use Rattle.index_sevens.specs.Sevens.{groups, sevens}
use Rattle.index_sevens.proofs.Steps.{size-fifth, size-last, size-more}
use Rattle.index_sevens.proofs.size.Goals as goal

pub loop-n-init : goal.loop-n-init
loop-n-init c = (omega arith, omega arith)

pub returns-then-left-lt128 : goal.returns-then-left-lt128
unfolding sevens
returns-then-left-lt128 c = omega (
  arith,
  c.loop-n.invariant.1,
  size-last c.loop-n.n c.loop-n.left (omega arith) c.if-left-lt128.true,
)

pub loop-n-preserved : goal.loop-n-preserved
loop-n-preserved c = (
  omega arith,
  omega (
    arith,
    c.loop-n.invariant.1,
    size-more c.loop-n.n c.loop-n.left (omega arith) c.if-left-lt128.false,
  ),
)

pub returns : goal.returns
unfolding sevens
returns c = let four : c.loop-n.n ≡ 4 = omega arith in
    let last : length (groups (5 - c.loop-n.n) c.loop-n.left) ≡ 1 = rw four (size-fifth c.loop-n.left) in
    omega (arith, c.loop-n.invariant.1, last)
