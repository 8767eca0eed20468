use Prim.Native.Nat.{◌+◌}
use mathlib.Core.Path.{◌≡◌, ◌∙◌}
use native.Mathlib.Omega.{arith}
use lib.ListN.{drop, length}
use Rattle.words.proofs.NthLaws.{behind-end, behind-next, behind-none, behind-other}
use Rattle.words.specs.Nth.{behind}
use Rattle.words.proofs.nth.start.Goals.{else-b-d, then-b-d}
use Rattle.words.proofs.nth.start.Goals as goal

pub returns-then-k-eq0 : goal.returns-then-k-eq0
returns-then-k-eq0 c = (omega arith, behind-none c.args.d c.loop-i.k _ c.if-k-eq0.true ∙ c.loop-i.invariant)

pub loop-i-preserved : goal.loop-i-preserved
loop-i-preserved c =
    let d = c.args.d in let s = c.args.s.now in let i = c.loop-i.i in let k = c.loop-i.k in
    let step : behind d c.if-b-d.k (drop (i + 1) s) ≡ behind d k (drop i s) =
    elim c.if-b-d.branch [
      | then-b-d w ↦ rw w.k-is (behind-next d s i (omega arith) k c.if-k-eq0.false w.if-b-d.true)
      | else-b-d w ↦ rw w.k-is (behind-other d s i (omega arith) k c.if-k-eq0.false w.if-b-d.false)
    ] in
    step ∙ c.loop-i.invariant

pub returns : goal.returns
returns c =
    let s = c.args.s.now in
    let end : length s ≡ c.loop-i.i = omega arith in
    (omega arith, rw end (behind-end c.args.d s c.loop-i.i c.loop-i.k (omega arith) ∙ c.loop-i.invariant))
