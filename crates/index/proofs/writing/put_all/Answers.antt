use Prim.Native.Nat.{◌≤◌, ◌+◌}
use mathlib.Core.Path.{refl, ◌∙◌}
use native.Mathlib.Omega.{arith}
use lib.ListN.{length}
use Rattle.index.specs.Index.{end_of}
use Rattle.index.specs.Places.{tip, reached_at, PutsOn}
use Rattle.index.proofs.Ranges.{Fits}
use Rattle.index.proofs.Putting.{ordered-fits, puts-start, puts-next, puts-on, put_all}
use Rattle.index.proofs.writing.put_all.Goals.{In-loop-reached}
use Rattle.index.proofs.writing.put_all.Goals as goal

-- Another entry is there; and what is known behind it, when its bytes were put by themselves.
more : (c : In-loop-reached) → c.loop-reached.reached.at + 3 ≤ length c.args.entries.now
more c = omega (arith, c.loop-reached-test.true, c.loop-reached.invariant.1.puts.ordered.inside)

pub loop-reached-init : goal.loop-reached-init
loop-reached-init c = (
  refl,
  puts-start c.args.entries.now c.args.out.now (reached_at 0 0 0 0) c.requires,
)

pub overflow_sub-entries : goal.overflow_sub-entries
overflow_sub-entries c = c.loop-reached.invariant.1.puts.ordered.inside

pub three-e-requires : goal.three-e-requires
three-e-requires c = more c

pub overflow_add-behind : goal.overflow_add-behind
overflow_add-behind c = omega (
  arith,
  c.loop-reached-test.true,
  c.well_formed.1.0.1,
)

pub overflow_add-behind-in-loop-reached : goal.overflow_add-behind-in-loop-reached
overflow_add-behind-in-loop-reached c = let f : Fits (tip c.loop-reached.reached.number c.loop-reached.reached.end) c.three-e.result = rw c.three-e.ensures
    (ordered-fits c.loop-reached.invariant.1.puts.ordered (more (goal.at.overflow_add-behind-in-loop-reached c).In-loop-reached)) in
    omega (arith, f.ends)

pub put_close-reached-requires : goal.put_close-reached-requires
put_close-reached-requires c =
    let turned : PutsOn c.args.entries.now c.args.out.now
    (reached_at 0 0 0 0) c.put_longer-place.new.out
    (reached_at (c.loop-reached.reached.at + 3) c.three-e.result.number (end_of c.three-e.result) c.put_longer-place.result) =
    puts-next c.loop-reached.invariant.1 (more (goal.at.put_close-reached-requires c).In-loop-reached) c.put_longer-place.auto.out c.three-e.ensures c.put_longer-place.ensures in
    (turned).puts

pub loop-reached-smaller : goal.loop-reached-smaller
loop-reached-smaller c = omega (arith, c.put_close-reached.ensures.on, c.put_close-reached.ensures.puts.ordered.inside)

pub loop-reached-preserved : goal.loop-reached-preserved
loop-reached-preserved c =
    let turned : PutsOn c.args.entries.now c.args.out.now
    (reached_at 0 0 0 0) c.put_longer-place.new.out
    (reached_at (c.loop-reached.reached.at + 3) c.three-e.result.number (end_of c.three-e.result) c.put_longer-place.result) =
    puts-next c.loop-reached.invariant.1 (more (goal.at.loop-reached-preserved c).In-loop-reached) c.put_longer-place.auto.out c.three-e.ensures c.put_longer-place.ensures in (
      c.put_close-reached.auto.out ∙ c.put_longer-place.auto.out ∙ c.loop-reached.invariant.0,
      puts-on (turned) c.put_close-reached.ensures,
    )

pub shape_of-out : goal.shape_of-out
shape_of-out c = c.loop-reached.invariant.0

pub returns : goal.returns
returns c = put_all c.loop-reached.invariant.1 c.loop-reached-test.false
