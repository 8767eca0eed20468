-- Field after field.
use native.Mathlib.Omega.{arith}
use Rattle.put.proofs.Chain.{no_field}
use Rattle.kind_gsa.proofs.Satellites.{one-field-more}
use Rattle.kind_gsa.proofs.put_satellites.Goals as goal

pub loop-m-init : goal.loop-m-init
loop-m-init c = (omega arith, no_field _)

pub loop-m-preserved : goal.loop-m-preserved
loop-m-preserved c =
    (omega (arith, c.loop-m-test.true), one-field-more c.args.s.now c.loop-m.m-index c.loop-m-test.true c.loop-m.invariant.1 c.two-a.ensures)
