-- `end_gives` meets its contract: each digit is that of its half; the high half of a byte is below 16.
use Prim.Native.Nat.{◌/◌, ◌%◌}
use mathlib.Core.Path.{◌≡◌, ◌∙◌}
use native.Mathlib.Omega.{arith}
use borrow.Author.Tests.{eq-eqb, ne_eqb}
use Rattle.line.specs.Line.{end_gives}
use Rattle.line.proofs.end_gives.Goals as goal

pub returns-then-t-hex_of : goal.returns-then-t-hex_of
unfolding end_gives
returns-then-t-hex_of c =
    let e : c.args.x / 16 % 16 ≡ c.args.x / 16 = omega arith in
    let t = eq-eqb _ _ (c.if-t-hex_of.true ∙ c.hex_of.ensures) in
    rw (c.hex_of-then-t-hex_of.ensures, rw e at t)

pub returns-else-t-hex_of : goal.returns-else-t-hex_of
unfolding end_gives
returns-else-t-hex_of c =
    let e : c.args.x / 16 % 16 ≡ c.args.x / 16 = omega arith in
    let t = ne_eqb _ _ c.if-t-hex_of.false in
    t ∙ rw (rw (c.hex_of.ensures, e) at t)
