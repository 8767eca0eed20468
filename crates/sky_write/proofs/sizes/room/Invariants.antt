-- The sum so far and the entries to come are the whole; each entry is at most 13 bytes.
use Prim.Native.Nat.{◌*◌, ◌+◌, ◌≤◌}
use mathlib.Core.Path.{◌≡◌}
use lib.ListN.{drop}
use Rattle.sky_write.specs.Size.{sizes, table_size}
use Rattle.sky_write.proofs.sizes.room.Given as goal

abbrev pub invariant-loop-e : goal.invariant-loop-e
invariant-loop-e l = (l.size ≤ 162 + 13 * l.e-index) × (l.size + sizes (drop l.e-index l.used) ≡ table_size l.fn.r)
