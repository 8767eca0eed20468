use Prim.Native.Nat.{◌*◌, ◌+◌, ◌-◌}
use mathlib.Core.Path.{◌∙◌}
use native.Mathlib.Omega.{arith}
use borrow.Rule.Slice.PartMut.{Post-is}
use Rattle.sky_read.proofs.LoopLaws.{begins, ends, goes-forward, goes_on, line-inside, no_bytes, sized, some_bytes, stops}
use Rattle.sky_read.proofs.read.Goals as goal

pub returns-then-s-eq0 : goal.returns-then-s-eq0
returns-then-s-eq0 c = c.refuse.ensures ∙ no_bytes c.args.s.now c.if-s-eq0.true

pub loop-at-init : goal.loop-at-init
loop-at-init c = begins c.args.s.now c.entry-none.result (some_bytes c.args.s.now c.if-s-eq0.false) c.entry-none.ensures

pub slice_bounds-step-end-in-loop-at : goal.slice_bounds-step-end-in-loop-at
slice_bounds-step-end-in-loop-at c =
    line-inside c.args.s.now c.loop-at.at c.line_end-end.result c.loop-at-test.true c.line_end-end.ensures

pub returns-in-Err : goal.returns-in-Err
returns-in-Err c =
    c.refuse-in-Err.ensures ∙ stops c.args.s.now c.loop-at.entries c.loop-at.seen c.loop-at.head c.loop-at.at c.loop-at.k c.loop-at.invariant
    c.line_end-end.result c.loop-at-test.true c.line_end-end.ensures c.step.result c.step.new.seen c.step.ensures _ c.in-Err.is

pub slice_bounds-entries-end : goal.slice_bounds-entries-end
slice_bounds-entries-end c =
    let s = sized c.args.s.now c.loop-at.entries c.loop-at.seen c.loop-at.head c.loop-at.at c.loop-at.k c.loop-at.invariant c.line_end-end.result
    c.loop-at-test.true c.line_end-end.ensures c.step.result c.step.new.seen c.step.ensures _ c.in-Ok.is in
    omega (arith, s.to-nine)

-- The four entries of the line stand behind those before them.
pub loop-at-preserved : goal.loop-at-preserved
loop-at-preserved c =
    goes_on c.args.s.now c.loop-at.entries c.loop-at.seen c.loop-at.head c.loop-at.at c.loop-at.k c.loop-at.invariant c.line_end-end.result
    c.loop-at-test.true c.line_end-end.ensures c.step.result c.step.new.seen c.step.ensures _ c.in-Ok.is _
    (rw (Post-is (4 * (c.loop-at.k - 1)) (4 * (c.loop-at.k - 1) + 4) c.loop-at.entries (omega arith), c.copy_from_slice.ensures.after))

pub loop-at-smaller : goal.loop-at-smaller
loop-at-smaller c =
    goes-forward c.args.s.now c.loop-at.at c.line_end-end.result c.loop-at-test.true c.line_end-end.ensures

pub returns : goal.returns
returns c =
    c.finish.ensures ∙ ends c.args.s.now c.loop-at.entries c.loop-at.seen c.loop-at.head c.loop-at.at c.loop-at.k c.loop-at.invariant
    c.loop-at-test.false
