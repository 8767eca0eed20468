-- By whether the number is less than zero.
use mir.Syntax.{w64}
use mir.Facts.{to_z-of_z}
use Rattle.put.proofs.Chain.{as-text, nothing_put}
use Rattle.put.specs.Wrote.{held}
use Rattle.put.proofs.SignTexts.{sign-minus, sign-none}
use borrow.Author.Rules.{rules}
use Rattle.text.proofs.put_minus.Goals as goal

pub returns-then-z-lt0 : goal.returns-then-z-lt0
returns-then-z-lt0 c = as-text (sign-minus c.args.z
    (rw (to_z-of_z {w = w64} {z = c.args.z} (search rules)) at
    c.if-z-lt0.true)) c.put.ensures

pub returns : goal.returns
returns c = as-text (sign-none c.args.z
    (rw (to_z-of_z {w = w64} {z = c.args.z} (search rules)) at c.if-z-lt0.false))
    (nothing_put (held c.args.at c.args.out.now))
