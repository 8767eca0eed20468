use mathlib.Core.Path.{◌∙◌, refl, sym}
use Rattle.line.specs.Line.{xor_of}
use Rattle.line.proofs.Laws.{xor-end, xor-next}
use Rattle.frame.proofs.xor_of.Goals as goal

pub loop-i-init : goal.loop-i-init
unfolding xor_of
loop-i-init c = refl

pub loop-i-preserved : goal.loop-i-preserved
loop-i-preserved c =
    sym (xor-next c.args.s.now c.loop-i.i c.loop-i-test.true c.loop-i.xor) ∙ c.loop-i.invariant

pub returns : goal.returns
returns c =
    sym (xor-end c.args.s.now c.loop-i.i c.loop-i-test.false c.loop-i.xor) ∙ c.loop-i.invariant
