-- `scan_hex` meets its contract: what is left to scan, from the value so far, gives what the whole gives from 0.
use Prim.Native.Nat.{◌<◌, ◌^◌}
use mathlib.Core.Path.{◌≡◌}
use lib.ListN.{drop}
use Rattle.form_mask.specs.Masks.{hex_from}
use Rattle.form_mask.proofs.read.scan_hex.Given as goal

abbrev pub invariant-loop-b : goal.invariant-loop-b
invariant-loop-b l = (l.acc < 16 ^ l.b-index) × (hex_from l.acc (drop l.b-index l.s) ≡ hex_from 0 l.s)
