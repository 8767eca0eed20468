-- By the refusal, then by the length of the line.
use mathlib.Core.Bool.{◌&&◌, false, true}
use mathlib.Core.Path.{◌≡◌}
use native.Mathlib.Omega.{arith}
use lib.Dec.{ltb}
use Rattle.std.proofs.lemmas.Bool.Decides.{nat_tests}
use Rattle.put.specs.Wrote.{held}
use Rattle.put.proofs.Chain.{as-text, nothing_put}
use Rattle.rows.proofs.Laws.{the-five, too_short, unknown}
use Rattle.rows.proofs.put_address.Goals as goal

pub returns-then-no-lt4 : goal.returns-then-no-lt4
returns-then-no-lt4 c =
    let e : (ltb 0 c.args.no && ltb c.args.no 4) ≡ true = grind (arith, nat_tests) in
    as-text (unknown c.args.no c.args.line.now e) c.put.ensures

pub returns-then-line-lt6 : goal.returns-then-line-lt6
returns-then-line-lt6 c =
    let e : (ltb 0 c.args.no && ltb c.args.no 4) ≡ false = grind (arith, nat_tests) in
    as-text (too_short c.args.no c.args.line.now e c.if-line-lt6.true) (nothing_put (held c.args.at c.args.out.now))

pub returns : goal.returns
returns c =
    let e : (ltb 0 c.args.no && ltb c.args.no 4) ≡ false = grind (arith, nat_tests) in
    as-text (the-five c.args.no c.args.line.now e c.if-line-lt6.false) c.put_bytes.ensures
