-- A wrong value, a number that is marked, or neither.
use mathlib.Core.Path.{◌∙◌, refl, sym}
use native.Mathlib.Omega.{arith}
use Rattle.frame.proofs.Sealing.{fault-none}
use Rattle.sky_write.proofs.FaultLaws.{look-good, look-seen, look-wrong, number-low, wrong-few}
use Rattle.sky_write.proofs.faults.entry_fault.Goals as goal

pub overflow_add-i-then-wrong-ne0 : goal.overflow_add-i-then-wrong-ne0
overflow_add-i-then-wrong-ne0 c = omega (arith, c.entry_wrong-wrong.ensures, wrong-few c.args.e)

pub returns-then-wrong-ne0 : goal.returns-then-wrong-ne0
returns-then-wrong-ne0 c =
    look-wrong c.args.i c.args.e c.args.seen.now c.entry_wrong-wrong.ensures c.if-wrong-ne0.true c.refuse.ensures

pub mark-requires : goal.mark-requires
mark-requires c = λ t. omega (
  arith,
  number-low c.args.e c.entry_wrong-wrong.result
      c.entry_wrong-wrong.ensures c.if-wrong-ne0.false,
  c.requires.1,
)

pub returns-then-mark : goal.returns-then-mark
returns-then-mark c =
    look-seen c.args.i c.args.e c.args.seen.now c.entry_wrong-wrong.ensures c.if-wrong-ne0.false c.requires.1
    c.mark.ensures.0 c.mark.ensures.1 c.if-mark.true c.refuse-then-mark.ensures

pub returns : goal.returns
returns c =
    look-good c.args.i c.args.e c.args.seen.now c.entry_wrong-wrong.ensures c.if-wrong-ne0.false c.requires.1
    c.mark.ensures.0 c.mark.ensures.1 c.if-mark.false (c.fault.ensures ∙ sym (fault-none 0 refl))
