use Rattle.index_sevens.specs.Places.{taken_at}
use Prim.Native.Nat.{◌-◌, ◌+◌, ◌*◌, ◌<◌}
use mathlib.Core.Bool.{◌||◌, false, true}
use lib.Dec.{eqb, ltb}
use Rattle.std.proofs.lemmas.Bool.Decides.{nat_tests}
use mathlib.Core.Path.{◌≡◌, ◌∙◌, ap, sym}
use native.Mathlib.Omega.{arith}
use lib.ListN.{drop, length}
use Rattle.index_sevens.specs.Sevens.{most, take_groups, within}
use Rattle.index_sevens.proofs.Steps.{fine_more, fine-one, onto-joined, part-fits, sum_fits, take-bad, take_next}
use Rattle.index_sevens.proofs.Steps.{take_none, take-over, take-value, unit-fits}
use Rattle.index_sevens.proofs.take_more.Goals as goal

pub loop-n-init : goal.loop-n-init
loop-n-init c = (
  omega arith,
  (
    fine-one c.args.low c.requires,
    ap within (onto-joined c.args.low (take_groups 4 (drop c.args.at c.args.s.now))),
  ),
)

pub returns-then-s-place : goal.returns-then-s-place
returns-then-s-place c = take_none c.args.s.now c.loop-n._n c.loop-n.place
    c.loop-n.sum c.loop-n.unit c.loop-n-test.true c.if-s-place.true ∙ ap
    (taken_at (length c.args.s.now)) (sym c.loop-n.invariant.1.1)

pub overflow_mul-v : goal.overflow_mul-v
overflow_mul-v c = let b = part-fits c.loop-n._n c.loop-n.sum
    c.loop-n.unit c.from-b.result
    c.loop-n.invariant.1.0 c.loop-n-test.true c.if-b-lt128.true in
    omega (arith, b)

pub overflow_add-v : goal.overflow_add-v
overflow_add-v c = let b = sum_fits c.loop-n._n c.loop-n.sum
    c.loop-n.unit c.from-b.result
    c.loop-n.invariant.1.0 c.loop-n-test.true c.if-b-lt128.true in
    omega (arith, b)

pub returns-then-b-eq0 : goal.returns-then-b-eq0
returns-then-b-eq0 c =
    let over : (eqb c.from-b.result 0 || ltb most (c.loop-n.sum + c.loop-n.unit * c.from-b.result)) ≡ true = grind (arith, nat_tests) in
    take-bad c.args.s.now
    c.loop-n._n c.loop-n.place
    c.loop-n.sum c.loop-n.unit
    c.loop-n-test.true c.if-s-place.false
    c.from-b.result c.from-b.ensures c.if-b-lt128.true over ∙ ap
    (taken_at (length c.args.s.now))
    (sym c.loop-n.invariant.1.1)

pub returns-then-b-lt128 : goal.returns-then-b-lt128
returns-then-b-lt128 c =
    let fine : (eqb c.from-b.result 0 || ltb most (c.loop-n.sum + c.loop-n.unit * c.from-b.result)) ≡ false = grind (arith, nat_tests) in
    take-value c.args.s.now
    c.loop-n._n c.loop-n.place
    c.loop-n.sum c.loop-n.unit
    c.loop-n-test.true c.if-s-place.false
    c.from-b.result c.from-b.ensures c.if-b-lt128.true fine ∙ ap
    (taken_at (length c.args.s.now))
    (sym c.loop-n.invariant.1.1)

pub overflow_mul-sum : goal.overflow_mul-sum
overflow_mul-sum c = let small : c.from-b.result - 128 < 128 = omega (
  arith,
  c.from-b.ensures,
  c.type_inv.s c.loop-n.place,
) in
    let b = part-fits c.loop-n._n c.loop-n.sum
    c.loop-n.unit (c.from-b.result - 128)
    c.loop-n.invariant.1.0 c.loop-n-test.true small in
    omega (arith, b)

pub overflow_add-sum : goal.overflow_add-sum
overflow_add-sum c = let small : c.from-b.result - 128 < 128 = omega (
  arith,
  c.from-b.ensures,
  c.type_inv.s c.loop-n.place,
) in
    let b = sum_fits c.loop-n._n c.loop-n.sum
    c.loop-n.unit (c.from-b.result - 128)
    c.loop-n.invariant.1.0 c.loop-n-test.true small in
    omega (arith, b)

pub overflow_mul-unit : goal.overflow_mul-unit
overflow_mul-unit c = let b = unit-fits c.loop-n._n c.loop-n.sum
    c.loop-n.unit 0 c.loop-n.invariant.1.0
    c.loop-n-test.true in omega (arith, b)

pub loop-n-preserved : goal.loop-n-preserved
loop-n-preserved c = let byte : c.from-b.result < 256 = omega
    (arith, c.from-b.ensures, c.type_inv.s c.loop-n.place) in
    let small : c.from-b.result - 128 < 128 = omega (arith, byte) in
    let next = take_next c.args.s.now
    c.loop-n._n c.loop-n.place
    c.loop-n.sum c.loop-n.unit
    c.loop-n-test.true c.if-s-place.false c.from-b.result c.from-b.ensures
    c.if-b-lt128.false byte in (
      omega arith,
      (
        fine_more c.loop-n._n c.loop-n.sum
            c.loop-n.unit (c.from-b.result - 128)
            c.loop-n.invariant.1.0 small,
        c.loop-n.invariant.1.1 ∙
            ap within next,
      ),
    )

pub returns : goal.returns
returns c = take-over c.args.s.now c.loop-n._n c.loop-n.place c.loop-n.sum
    c.loop-n.unit c.loop-n-test.false ∙ ap (taken_at (length c.args.s.now))
    (sym c.loop-n.invariant.1.1)
