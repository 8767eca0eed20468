-- By whether the byte is plain text.
use mathlib.Core.Bool.{◌&&◌, false, true}
use mathlib.Core.Path.{◌≡◌}
use native.Mathlib.Omega.{arith}
use lib.Dec.{leb}
use Rattle.std.proofs.lemmas.Bool.Decides.{nat_tests}
use Rattle.put.proofs.Chain.{◌⨾◌}
use Rattle.reasons.specs.Reasons.{byte_text}
use Rattle.reasons.proofs.put_byte.Goals as goal

pub returns-then-b-le126 : goal.returns-then-b-le126
unfolding byte_text
returns-then-b-le126 c =
    let plain : (leb 32 c.args.b && leb c.args.b 126) ≡ true = grind (arith, nat_tests) in
    rw plain (c.put-a0.ensures ⨾ (c.put-a1.ensures ⨾ c.put.ensures))

pub returns : goal.returns
unfolding byte_text
returns c =
    let other : (leb 32 c.args.b && leb c.args.b 126) ≡ false = grind (arith, nat_tests) in
    rw other (c.put_bytes-a.ensures ⨾ c.put_pair.ensures)
