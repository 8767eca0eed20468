-- `ones` meets its contract: eight digits have room in 64 bits, and what is left without the first bit past them in 32.
use native.Mathlib.Nat.{one-le-pow, pow-le-pow_right}
use native.Mathlib.Omega.{arith}
use lib.Dec.{lit<}
use Rattle.form_mask.proofs.read.ones.Goals as goal

pub pow-requires : goal.pow-requires
pow-requires c = omega (arith, pow-le-pow_right {n = 16} (lit< tt) c.requires)

pub overflow_sub-result : goal.overflow_sub-result
overflow_sub-result c = omega (arith, c.pow.ensures, one-le-pow c.args.width 16 (lit< tt))

pub overflow_cast-result : goal.overflow_cast-result
overflow_cast-result c = omega (arith, c.pow.ensures, pow-le-pow_right {n = 16} (lit< tt) c.requires)

pub returns : goal.returns
returns c = rw c.pow.ensures
