use mathlib.Core.Path.{◌∙◌, refl}
use native.Mathlib.Omega.{arith}
use Rattle.put.specs.Wrote.{held}
use Rattle.index_sevens.specs.Sevens.{sevens}
use Rattle.index_sevens.proofs.Steps.{put_last, put-more, put-none}
use Rattle.index_sevens.proofs.put.Goals as goal

pub loop-n-init : goal.loop-n-init
loop-n-init c = (omega arith, (refl, refl))

pub overflow_cast-left : goal.overflow_cast-left
overflow_cast-left c = omega (arith, c.if-left-lt128.true)

pub shape_of-out-then-left-lt128 : goal.shape_of-out-then-left-lt128
shape_of-out-then-left-lt128 c = c.put.auto.out ∙ c.loop-n.invariant.1.0

pub returns-then-left-lt128 : goal.returns-then-left-lt128
unfolding sevens
returns-then-left-lt128 c = record {
  is = put_last c.loop-n._n
      c.loop-n.left c.loop-n-test.true
      c.if-left-lt128.true c.put.ensures ∙
      c.loop-n.invariant.1.1;
}

pub loop-n-preserved : goal.loop-n-preserved
loop-n-preserved c = (
  omega arith,
  (
    c.put-place.auto.out ∙ c.loop-n.invariant.1.0,
    put-more c.loop-n._n c.loop-n.left
        c.loop-n-test.true c.if-left-lt128.false
        c.put-place.ensures ∙ c.loop-n.invariant.1.1,
  ),
)

pub shape_of-out : goal.shape_of-out
shape_of-out c = c.loop-n.invariant.1.0

pub returns : goal.returns
unfolding sevens
returns c = record {
  is = put-none (held c.loop-n.place c.loop-n.out) c.loop-n._n c.loop-n.left
      c.loop-n-test.false ∙ c.loop-n.invariant.1.1;
}
