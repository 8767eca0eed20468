-- Its blank, its minus if it has one, then the digits of its size.
use mathlib.Core.Path.{◌≡◌, subst}
use mir.Syntax.{w64}
use mir.Facts.{to_z-of_z}
use native.Mathlib.Omega.{arith}
use Rattle.std.specs.Prelude.{ℕ}
use Rattle.put.specs.Wrote.{Held, Puts}
use Rattle.text.specs.Numbers.{decimal_text}
use Rattle.put.proofs.Chain.{◌⨾◌}
use borrow.Author.Rules.{rules}
use Rattle.text.proofs.put_int.Goals as goal

of-size : {h k : Held} {n m : ℕ} → Puts h (decimal_text n) k → n ≡ m → Puts h (decimal_text m) k
of-size {h} {k} p e = subst (λ (x : ℕ). Puts h (decimal_text x) k) e p

pub returns : goal.returns
returns c =
    let plain = to_z-of_z {w = w64} {z = c.args.z} (search rules) in
    c.put-a0.ensures
    ⨾ ((rw plain at c.put_minus-a1.ensures)
    ⨾ of-size c.put_number.ensures (rw (c.unsigned_abs.ensures.value, plain) (grind arith)))
