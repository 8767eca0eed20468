use mathlib.Core.Path.{◌≡◌, ap, refl, sym, ◌∙◌}
use native.Mathlib.Omega.{arith}
use lib.ListN.{get_or, length, set}
use lib.Dec.{eqb}
use Rattle.line.specs.Line.{xor_of}
use Rattle.line.proofs.Laws.{good-end, good-next, good-plain, plain-no-comma, plain-stands, xor-end, xor-next}
use Rattle.line.proofs.Ending.{count-end, count_next, count-skip, mark-most, store-end, store-next, store-skip}
use Rattle.line.proofs.scan.Goals as goal

pub loop-i-init : goal.loop-i-init
unfolding xor_of
loop-i-init c = (refl, refl, omega arith, omega arith, refl)

pub loop-i-preserved-then-is_plain : goal.loop-i-preserved-then-is_plain
loop-i-preserved-then-is_plain c =
    let t = sym c.is_plain.ensures ∙ c.if-is_plain.true in
    let o = plain-no-comma (get_or c.args.s.now c.loop-i.i 0) t in (
      c.loop-i.invariant.0 ∙ good-plain c.args.s.now c.loop-i.i c.loop-i-test.true (plain-stands (get_or c.args.s.now c.loop-i.i 0) t) c.loop-i.good,
      c.loop-i.invariant.1 ∙ xor-next c.args.s.now c.loop-i.i c.loop-i-test.true c.loop-i.xor,
      omega arith,
      omega (arith, count-skip c.loop-i.p c.loop-i.n c.args.s.now c.loop-i.i c.loop-i-test.true o),
      store-skip c.loop-i.p c.loop-i.n c.args.s.now c.loop-i.i c.loop-i-test.true o ∙ c.loop-i.invariant.4,
    )

pub loop-i-preserved : goal.loop-i-preserved
loop-i-preserved c = (
  rw c.may_stand-good.ensures (c.loop-i.invariant.0 ∙ good-next c.args.s.now c.loop-i.i c.loop-i-test.true c.loop-i.good),
  c.loop-i.invariant.1 ∙ xor-next c.args.s.now c.loop-i.i c.loop-i-test.true c.loop-i.xor,
  omega (arith, mark-most (eqb (get_or c.args.s.now c.loop-i.i 0) 44)),
  omega (arith, count_next c.loop-i.p c.loop-i.n c.args.s.now c.loop-i.i c.loop-i-test.true),
  rw c.store.ensures (store-next c.loop-i.p c.loop-i.n c.args.s.now c.loop-i.i c.loop-i-test.true ∙ c.loop-i.invariant.4),
)

pub returns : goal.returns
returns c =
    let e : length c.args.s.now ≡ c.loop-i.i = omega arith in
    record {
      good_value = (sym (c.loop-i.invariant.0 ∙ good-end _ _ c.loop-i-test.false _), sym (c.loop-i.invariant.1 ∙ xor-end _ _ c.loop-i-test.false _));
      count_value = (
        omega (arith, count-end c.loop-i.p c.loop-i.n c.args.s.now c.loop-i.i c.loop-i-test.false),
        c.store-2.ensures ∙ (ap (set c.loop-i.p c.loop-i.n) e
            ∙ (sym (store-end c.loop-i.p c.loop-i.n c.args.s.now c.loop-i.i c.loop-i-test.false) ∙ c.loop-i.invariant.4)),
      );
    }

pub overflow_add-n : goal.overflow_add-n
overflow_add-n c =
    omega (arith, mark-most (eqb (get_or c.args.s.now c.loop-i.i 0) 44))
