-- `entries_at` meets its contract: what is left after the lines before, and no more than four.
use native.Mathlib.Omega.{arith}
use Rattle.sky.proofs.Numbers.{entries-at}
use Rattle.sky.proofs.entries_at.Goals as goal

pub returns : goal.returns
returns c = omega (arith, entries-at c.args.n c.args.k, c.min.ensures, c.saturating_sub.ensures)
