-- `decimal` meets its contract: what is left to scan, from the value so far, gives what the whole gives from 0.
use Prim.Native.Nat.{◌<◌, ◌^◌}
use mathlib.Core.Path.{◌≡◌}
use lib.ListN.{drop}
use Rattle.digits.specs.Decimal.{digits_from}
use Rattle.digits.proofs.decimal.Given as goal

abbrev pub invariant-loop-b : goal.invariant-loop-b
invariant-loop-b l = (l.acc < 10 ^ l.b-index) × (digits_from l.acc (drop l.b-index l.s) ≡ digits_from 0 l.s)
