-- Part by part.
use mathlib.Core.Path.{◌≡◌}
use mathlib.Core.Bool.{not, ◌&&◌, ◌||◌}
use lib.Dec.{eqb}
use Rattle.std.proofs.Common.{rules, tests}
use Rattle.tally.specs.Tally.{pass_one}
use Rattle.tally.proofs.pass_one.Goals.{After-plus-5, then-b-eq36, else-b-eq36+then-b-ne10, else-b-eq36+else-b-ne10}
use Rattle.tally.proofs.pass_one.Goals as goal

begins : (c : After-plus-5) → c.if-b-eq36.result ≡ (eqb c.args.b 36 || (not (eqb c.args.b 10) && c.args.t.begun))
begins c = elim c.if-b-eq36.branch [
  | then-b-eq36 w ↦ search (rules, tests)
  | else-b-eq36+then-b-ne10 w ↦ search (rules, tests)
  | else-b-eq36+else-b-ne10 w ↦ search (rules, tests)
]

pub returns : goal.returns
unfolding pass_one
returns c =
    rw (
      c.plus-5.ensures,
      c.begun_at-2.ensures,
      c.plus-4.ensures,
      c.begun_at.ensures,
      c.plus-3.ensures,
      c.plus-2.ensures,
      c.one.ensures,
      c.plus.ensures,
      begins c,
    )
