-- What stands behind the dividing bytes that are left to pass, from place i on, is what stands behind them all.
use mathlib.Core.Path.{◌≡◌}
use lib.ListN.{drop}
use Rattle.words.specs.Nth.{behind}
use Rattle.words.proofs.nth.start.Given as goal

abbrev pub invariant-loop-i : goal.invariant-loop-i
invariant-loop-i l = behind l.d l.k (drop l.i l.s) ≡ behind l.d l.n l.s
