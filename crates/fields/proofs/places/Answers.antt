use mathlib.Core.Path.{◌≡◌, ap, refl, sym, ◌∙◌}
use native.Mathlib.Omega.{arith}
use lib.Dec.{eqb}
use lib.ListN.{get_or, length, set}
use Rattle.fields.proofs.Splitting.{ends-count}
use Rattle.line.proofs.Ending.{count-end, count_next, mark-most, store-end, store-next}
use Rattle.fields.proofs.places.Goals as goal

pub loop-i-init : goal.loop-i-init
loop-i-init c = (omega arith, omega arith, refl)

pub loop-i-preserved : goal.loop-i-preserved
loop-i-preserved c = (
  omega (arith, mark-most (eqb (get_or c.args.s.now c.loop-i.i 0) 44)),
  omega (arith, count_next c.loop-i.p c.loop-i.n c.args.s.now c.loop-i.i c.loop-i-test.true),
  rw c.store.ensures (store-next c.loop-i.p c.loop-i.n c.args.s.now c.loop-i.i c.loop-i-test.true ∙ c.loop-i.invariant.2),
)

pub overflow_add-n : goal.overflow_add-n
overflow_add-n c =
    omega (arith, mark-most (eqb (get_or c.args.s.now c.loop-i.i 0) 44))

pub returns : goal.returns
returns c =
    let e : length c.args.s.now ≡ c.loop-i.i = omega arith in
    record {
      fields = omega (arith, count-end c.loop-i.p c.loop-i.n c.args.s.now c.loop-i.i c.loop-i-test.false, ends-count 0 c.args.s.now);
      ends = c.store-2.ensures ∙ (ap (set c.loop-i.p c.loop-i.n) e
          ∙ (sym (store-end c.loop-i.p c.loop-i.n c.args.s.now c.loop-i.i c.loop-i-test.false) ∙ c.loop-i.invariant.2));
    }
