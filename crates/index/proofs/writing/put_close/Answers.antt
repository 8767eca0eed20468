use Prim.Native.Nat.{◌-◌, ◌+◌}
use mathlib.Core.Path.{refl}
use native.Mathlib.Omega.{arith}
use lib.ListN.{get_or, length-set}
use Rattle.put.proofs.Chain.{as-text}
use Rattle.index.specs.Places.{Close}
use Rattle.index.proofs.Threes.{three-room}
use Rattle.index.proofs.Putting.{Turn, turn, puts-start, puts-next}
use Rattle.index.proofs.writing.put_close.Goals.{In-loop-n}
use Rattle.index.proofs.writing.put_close.Goals as goal

-- The three numbers of a turn, and the entry that they are.
near : (c : In-loop-n) → Close c.args.entries.now c.loop-n.i c.loop-n.number c.loop-n.end
near c = c.is_close.ensures c.loop-n-test.true

three : (c : In-loop-n)
    → Turn c.args.entries.now c.loop-n.out c.loop-n.i c.loop-n.number c.loop-n.end c.loop-n.place
three c = turn c.loop-n.invariant.1.puts (near c)

pub loop-n-init : goal.loop-n-init
loop-n-init c = (
  refl,
  puts-start c.args.entries.now c.args.out.now c.args.from c.requires,
)

pub is_close-requires : goal.is_close-requires
is_close-requires c = c.loop-n.invariant.1.puts.ordered

pub offset_bounds-entries-i : goal.offset_bounds-entries-i
offset_bounds-entries-i c = let q = near c in omega (arith, q.inside, c.well_formed.1.0.1)

pub bounds-entries-i : goal.bounds-entries-i
bounds-entries-i c = let q = near (goal.at.bounds-entries-i c).In-loop-n in omega (arith, q.inside)

pub overflow_add-offset : goal.overflow_add-offset
overflow_add-offset c = let q = near (goal.at.overflow_add-offset c).In-loop-n in omega (arith, q.inside, c.well_formed.1.0.0)

pub offset_bounds-entries-i-in-loop-n : goal.offset_bounds-entries-i-in-loop-n
offset_bounds-entries-i-in-loop-n c = let q = near (goal.at.offset_bounds-entries-i-in-loop-n c).In-loop-n in omega (arith, q.inside, c.well_formed.1.0.1)

pub bounds-entries-i-in-loop-n : goal.bounds-entries-i-in-loop-n
bounds-entries-i-in-loop-n c = let q = near (goal.at.bounds-entries-i-in-loop-n c).In-loop-n in omega (arith, q.inside)

pub overflow_add-bytes : goal.overflow_add-bytes
overflow_add-bytes c = let q = near (goal.at.overflow_add-bytes c).In-loop-n in omega (
  arith,
  q.inside,
  c.well_formed.1.0.0,
)

pub offset_bounds-entries-i-in-loop-n-2 : goal.offset_bounds-entries-i-in-loop-n-2
offset_bounds-entries-i-in-loop-n-2 c = let q = near (goal.at.offset_bounds-entries-i-in-loop-n-2 c).In-loop-n in omega (
  arith,
  q.inside,
  c.well_formed.1.0.1,
)

pub bounds-entries-i-in-loop-n-2 : goal.bounds-entries-i-in-loop-n-2
bounds-entries-i-in-loop-n-2 c = let q = near (goal.at.bounds-entries-i-in-loop-n-2 c).In-loop-n in omega (arith, q.inside)

pub overflow_sub-out : goal.overflow_sub-out
overflow_sub-out c = let t = three (goal.at.overflow_sub-out c).In-loop-n in omega (arith, t.fit.later)

pub overflow_cast-out : goal.overflow_cast-out
overflow_cast-out c = let q = near (goal.at.overflow_cast-out c).In-loop-n in omega (arith, q.gap)

pub bounds-out-place : goal.bounds-out-place
bounds-out-place c = let t = three (goal.at.bounds-out-place c).In-loop-n in omega (arith, t.room)

pub overflow_sub-out-in-loop-n : goal.overflow_sub-out-in-loop-n
overflow_sub-out-in-loop-n c = let t = three (goal.at.overflow_sub-out-in-loop-n c).In-loop-n in omega (arith, t.fit.behind)

pub overflow_cast-out-in-loop-n : goal.overflow_cast-out-in-loop-n
overflow_cast-out-in-loop-n c = let q = near (goal.at.overflow_cast-out-in-loop-n c).In-loop-n in omega (arith, q.skip)

pub overflow_add-out : goal.overflow_add-out
overflow_add-out c = let t = three (goal.at.overflow_add-out c).In-loop-n in omega (
  arith,
  t.room,
  c.loop-n.invariant.0,
  c.well_formed.0.0,
)

pub bounds-out-place-in-loop-n : goal.bounds-out-place-in-loop-n
bounds-out-place-in-loop-n c = let t = three (goal.at.bounds-out-place-in-loop-n c).In-loop-n in simp length-set (omega (arith, t.room))

pub overflow_cast-out-in-loop-n-2 : goal.overflow_cast-out-in-loop-n-2
overflow_cast-out-in-loop-n-2 c = let t = three (goal.at.overflow_cast-out-in-loop-n-2 c).In-loop-n in omega (arith, t.fit.longest)

pub overflow_add-out-in-loop-n : goal.overflow_add-out-in-loop-n
overflow_add-out-in-loop-n c = let t = three (goal.at.overflow_add-out-in-loop-n c).In-loop-n in omega (
  arith,
  t.room,
  c.loop-n.invariant.0,
  c.well_formed.0.0,
)

pub bounds-out-place-in-loop-n-2 : goal.bounds-out-place-in-loop-n-2
bounds-out-place-in-loop-n-2 c = let t = three (goal.at.bounds-out-place-in-loop-n-2 c).In-loop-n in simp length-set (omega (arith, t.room))

pub overflow_add-end : goal.overflow_add-end
overflow_add-end c = let t = three (goal.at.overflow_add-end c).In-loop-n in omega (arith, t.fit.ends)

pub overflow_add-i : goal.overflow_add-i
overflow_add-i c = let q = near (goal.at.overflow_add-i c).In-loop-n in omega (
  arith,
  q.inside,
  c.well_formed.1.0.1,
)

pub overflow_add-place : goal.overflow_add-place
overflow_add-place c = let t = three (goal.at.overflow_add-place c).In-loop-n in omega (
  arith,
  t.room,
  c.loop-n.invariant.0,
  c.well_formed.0.1,
)

pub loop-n-smaller : goal.loop-n-smaller
loop-n-smaller c = let q = near (goal.at.loop-n-smaller c).In-loop-n in omega (arith, q.inside)

pub loop-n-preserved : goal.loop-n-preserved
loop-n-preserved c = let t = three (goal.at.loop-n-preserved c).In-loop-n in (
  simp length-set c.loop-n.invariant.0,
  puts-next c.loop-n.invariant.1 (near (goal.at.loop-n-preserved c).In-loop-n).inside (simp length-set) refl (as-text t.bytes
      (three-room c.loop-n.place (get_or c.args.entries.now c.loop-n.i 0 - c.loop-n.number) (get_or c.args.entries.now (c.loop-n.i + 1) 0 - c.loop-n.end) (get_or c.args.entries.now (c.loop-n.i + 2) 0) c.loop-n.out t.room)),
)

pub shape_of-out : goal.shape_of-out
shape_of-out c = c.loop-n.invariant.0

pub returns : goal.returns
returns c = c.loop-n.invariant.1
