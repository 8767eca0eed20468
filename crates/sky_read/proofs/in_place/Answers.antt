-- `in_place` meets its contract: where the line carries its own number, its entries are those of line k.
use Prim.Native.Nat.{ℕ}
use mathlib.Core.Path.{◌∙◌, ap}
use lib.Dec.{eqb}
use borrow.Author.Tests.{eq-eqb, le-leb}
use Rattle.std.proofs.Common.{rules}
use Rattle.sky.specs.Group.{in_place}
use Rattle.sky_read.proofs.StepLaws.{in-place-is}
use Rattle.sky_read.proofs.in_place.Goals as goal

pub returns-then-v : goal.returns-then-v
returns-then-v c =
    ap (λ (n : ℕ). eqb c.args.v.count n) c.entries_at-entries.ensures
    ∙ rw (eq-eqb c.args.v.line c.args.k c.if-v.true.0, le-leb c.args.v.line c.args.v.lines c.if-v.true.1) at (in-place-is c.args.k c.args.v)

pub returns-else-v : goal.returns-else-v
unfolding in_place
returns-else-v c = search rules
