-- The four entries at a line's places are the part of the table that it has.
use Prim.Native.Nat.{◌*◌, ◌+◌, ◌-◌}
use mathlib.Core.Path.{◌≡◌}
use native.Mathlib.Omega.{arith}
use Rattle.sky.specs.Table.{line_at}
use Rattle.sky_write.proofs.line_of.Goals as goal

pub returns : goal.returns
unfolding line_at
returns c =
    let four : 4 * (c.args.k - 1) + 4 - 4 * (c.args.k - 1) ≡ 4 = omega arith in
    rw (c.lines_for-lines.ensures, c.entries_at-count.ensures, c.copy_from_slice.ensures.after, four)
