-- Three bytes: stored at once where there is room for all, else one by one.
use Prim.Native.Nat.{◌+◌}
use native.Mathlib.Omega.{arith}
use lib.ListN.{set, length-set}
use Rattle.put.proofs.Chain.{◌⨾◌}
use Rattle.index.proofs.Threes.{three-room}
use Rattle.index.proofs.put_three.Goals as goal

pub bounds-out-at-then-at-out : goal.bounds-out-at-then-at-out
bounds-out-at-then-at-out c = rw (length-set c.args.out.now c.args.at
    c.args.gap) (omega arith)

pub bounds-out-at-then-at-out-2 : goal.bounds-out-at-then-at-out-2
bounds-out-at-then-at-out-2 c = rw (
  length-set
      (set c.args.out.now c.args.at c.args.gap)
      (c.args.at + 1) c.args.skip,
  length-set c.args.out.now c.args.at c.args.gap,
) (omega arith)

pub returns-then-at-out : goal.returns-then-at-out
returns-then-at-out c = three-room c.args.at c.args.gap
    c.args.skip c.args.length c.args.out.now
    (omega arith)

pub returns : goal.returns
returns c = c.put-a0.ensures ⨾
    c.put-a1.ensures ⨾ c.put.ensures
