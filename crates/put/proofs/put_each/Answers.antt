use mathlib.Core.Path.{refl, ◌∙◌}
use Rattle.put.specs.Wrote.{held}
use Rattle.put.proofs.Chain.{put_next, put-end}
use Rattle.put.proofs.put_each.Goals as goal

pub loop-b-init : goal.loop-b-init
loop-b-init c = refl

pub loop-b-preserved : goal.loop-b-preserved
loop-b-preserved c =
    put_next c.args.s.now c.loop-b.b-index c.loop-b-test.true c.put-place.ensures ∙ c.loop-b.invariant

pub returns : goal.returns
returns c =
    record { is = put-end c.args.s.now c.loop-b.b-index (held c.loop-b.place c.loop-b.out) c.loop-b-test.false ∙ c.loop-b.invariant }
