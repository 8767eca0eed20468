-- The satellites from place i on, put behind those before it, are all of them put from the start.
use mathlib.Core.Path.{◌≡◌}
use lib.ListN.{drop, length}
use Rattle.put.specs.Wrote.{held, wrote}
use Rattle.skies_rows.specs.Rows.{satellites_text}
use Rattle.skies_rows.proofs.put_satellites.Given as goal

abbrev pub invariant-loop-e : goal.invariant-loop-e
invariant-loop-e l = (length l.out ≡ length l.initial.out)
    × (wrote (held l.place l.out) (satellites_text (drop l.e-index l.used)) ≡ wrote (held l.fn.at l.initial.out) (satellites_text l.used))
