use Prim.Native.Nat.{◌+◌}
use mathlib.Core.Path.{refl}
use native.Mathlib.Omega.{arith}
use lib.ListN.{get_or, length-set}
use Rattle.index.specs.Answers.{numbers_of}
use Rattle.index.specs.Places.{Near}
use Rattle.index.proofs.Threes.{three-room}
use Rattle.index.proofs.Laying.{Turn, turn, lays-start, lays-next}
use Rattle.index.proofs.reading.lay.Goals.{In-loop-skip}
use Rattle.index.proofs.reading.lay.Goals as goal

-- The three bytes of a turn, and the entry that they are.
bytes : (c : In-loop-skip) → Near c.args.s.now c.loop-skip.at
bytes c = c.is_near.ensures c.loop-skip-test.true

three : (c : In-loop-skip) → Turn c.args.s.now c.loop-skip.out c.loop-skip.at c.loop-skip.number c.loop-skip.end c.loop-skip.place
three c = turn c.loop-skip.invariant.1.lays (bytes c)

pub loop-skip-init : goal.loop-skip-init
loop-skip-init c = (
  refl,
  lays-start c.args.s.now c.args.out.now c.args.from c.requires,
)

pub overflow_add-skip : goal.overflow_add-skip
overflow_add-skip c = let n = bytes c in omega (arith, n.inside)

pub bounds-s-at : goal.bounds-s-at
bounds-s-at c = let n = bytes (goal.at.bounds-s-at c).In-loop-skip in omega (arith, n.inside)

pub overflow_cast-skip : goal.overflow_cast-skip
overflow_cast-skip c = let n = bytes (goal.at.overflow_cast-skip c).In-loop-skip in omega (arith, n.second)

pub overflow_add-bytes : goal.overflow_add-bytes
overflow_add-bytes c = let n = bytes (goal.at.overflow_add-bytes c).In-loop-skip in omega (arith, n.inside)

pub bounds-s-at-in-loop-skip : goal.bounds-s-at-in-loop-skip
bounds-s-at-in-loop-skip c = let n = bytes (goal.at.bounds-s-at-in-loop-skip c).In-loop-skip in omega (arith, n.inside)

pub overflow_cast-bytes : goal.overflow_cast-bytes
overflow_cast-bytes c = let n = bytes (goal.at.overflow_cast-bytes c).In-loop-skip in omega (arith, n.third)

pub bounds-s-at-in-loop-skip-2 : goal.bounds-s-at-in-loop-skip-2
bounds-s-at-in-loop-skip-2 c = let n = bytes (goal.at.bounds-s-at-in-loop-skip-2 c).In-loop-skip in omega (arith, n.inside)

pub overflow_cast-number : goal.overflow_cast-number
overflow_cast-number c = let n = bytes (goal.at.overflow_cast-number c).In-loop-skip in omega (arith, n.first)

pub overflow_add-number : goal.overflow_add-number
overflow_add-number c = let t = three (goal.at.overflow_add-number c).In-loop-skip in omega (arith, t.enters.fitting.number)

pub offset_bounds-out-place : goal.offset_bounds-out-place
offset_bounds-out-place c = let t = three (goal.at.offset_bounds-out-place c).In-loop-skip in omega (
  arith,
  t.room,
  c.loop-skip.invariant.0,
  c.well_formed.1.0.1,
)

pub bounds-out-place : goal.bounds-out-place
bounds-out-place c = let t = three (goal.at.bounds-out-place c).In-loop-skip in omega (arith, t.room)

pub overflow_add-out : goal.overflow_add-out
overflow_add-out c = let t = three (goal.at.overflow_add-out c).In-loop-skip in omega (arith, t.enters.fitting.ends)

pub overflow_add-out-in-loop-skip : goal.overflow_add-out-in-loop-skip
overflow_add-out-in-loop-skip c = let t = three (goal.at.overflow_add-out-in-loop-skip c).In-loop-skip in omega (
  arith,
  t.room,
  c.loop-skip.invariant.0,
  c.well_formed.1.0.0,
)

pub offset_bounds-out-place-in-loop-skip : goal.offset_bounds-out-place-in-loop-skip
offset_bounds-out-place-in-loop-skip c = let t = three (goal.at.offset_bounds-out-place-in-loop-skip c).In-loop-skip in omega (
  arith,
  t.room,
  c.loop-skip.invariant.0,
  c.well_formed.1.0.1,
)

pub bounds-out-place-in-loop-skip : goal.bounds-out-place-in-loop-skip
bounds-out-place-in-loop-skip c = let t = three (goal.at.bounds-out-place-in-loop-skip c).In-loop-skip in simp length-set (omega (arith, t.room))

pub overflow_add-out-in-loop-skip-2 : goal.overflow_add-out-in-loop-skip-2
overflow_add-out-in-loop-skip-2 c = let t = three (goal.at.overflow_add-out-in-loop-skip-2 c).In-loop-skip in omega (
  arith,
  t.room,
  c.loop-skip.invariant.0,
  c.well_formed.1.0.0,
)

pub offset_bounds-out-place-in-loop-skip-2 : goal.offset_bounds-out-place-in-loop-skip-2
offset_bounds-out-place-in-loop-skip-2 c = let t = three (goal.at.offset_bounds-out-place-in-loop-skip-2 c).In-loop-skip in omega (
  arith,
  t.room,
  c.loop-skip.invariant.0,
  c.well_formed.1.0.1,
)

pub bounds-out-place-in-loop-skip-2 : goal.bounds-out-place-in-loop-skip-2
bounds-out-place-in-loop-skip-2 c = let t = three (goal.at.bounds-out-place-in-loop-skip-2 c).In-loop-skip in simp length-set (omega (arith, t.room))

pub overflow_add-end : goal.overflow_add-end
overflow_add-end c = let t = three (goal.at.overflow_add-end c).In-loop-skip in omega (arith, t.enters.fitting.ends)

pub overflow_add-end-in-loop-skip : goal.overflow_add-end-in-loop-skip
overflow_add-end-in-loop-skip c = let t = three (goal.at.overflow_add-end-in-loop-skip c).In-loop-skip in omega (arith, t.enters.fitting.ends)

pub overflow_add-at : goal.overflow_add-at
overflow_add-at c = let n = bytes (goal.at.overflow_add-at c).In-loop-skip in omega (arith, n.inside)

pub overflow_add-place : goal.overflow_add-place
overflow_add-place c = let t = three (goal.at.overflow_add-place c).In-loop-skip in omega (
  arith,
  t.room,
  c.loop-skip.invariant.0,
  c.well_formed.1.0.0,
)

pub loop-skip-smaller : goal.loop-skip-smaller
loop-skip-smaller c = let n = bytes (goal.at.loop-skip-smaller c).In-loop-skip in omega (arith, n.inside)

pub loop-skip-preserved : goal.loop-skip-preserved
unfolding numbers_of
loop-skip-preserved c = let t = three (goal.at.loop-skip-preserved c).In-loop-skip in (
  simp length-set c.loop-skip.invariant.0,
  lays-next c.loop-skip.invariant.1 t.enters refl (omega arith) refl
      (three-room c.loop-skip.place (c.loop-skip.number + get_or c.args.s.now c.loop-skip.at 0) (c.loop-skip.end + get_or c.args.s.now (c.loop-skip.at + 1) 0) (get_or c.args.s.now (c.loop-skip.at + 2) 0) c.loop-skip.out t.room)
      (simp length-set),
)

pub shape_of-out : goal.shape_of-out
shape_of-out c = c.loop-skip.invariant.0

pub returns : goal.returns
returns c = c.loop-skip.invariant.1
