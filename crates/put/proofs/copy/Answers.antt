use Prim.Native.Nat.{◌+◌, ◌-◌}
use mathlib.Core.Path.{sym, ◌≡◌}
use native.Mathlib.Omega.{arith}
use lib.ListN.{length}
use lib.Seq.{drop-drop}
use Rattle.put.proofs.Chain.{put-fits}
use Rattle.put.proofs.copy.Goals as goal

pub returns : goal.returns
returns c =
    let n = length c.args.s.now in
    let k : c.args.at + n - c.args.at ≡ n = omega arith in
    record { is = rw (c.copy_from_slice.ensures.after, k, drop-drop) (sym (put-fits c.args.at c.args.out.now c.args.s.now c.requires)) }
