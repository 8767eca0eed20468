-- The two bounds are those of the definition.
use borrow.Author.Rules.{rules}
use mir.Syntax.{w64}
use mir.Facts.{to_z-of_z}
use Rattle.numbers.proofs.Fitting.{mark-is}
use Rattle.numbers.proofs.is_mark.Goals as goal

pub returns-then-n-ge0 : goal.returns-then-n-ge0
returns-then-n-ge0 c =
    let f = to_z-of_z {w = w64} {z = c.args.n} (search rules) in
    let t = rw f at c.if-n-ge0.true in
    rw f (rw t at (mark-is c.args.n))

pub returns-else-n-ge0 : goal.returns-else-n-ge0
returns-else-n-ge0 c =
    let f = to_z-of_z {w = w64} {z = c.args.n} (search rules) in
    let t = rw f at c.if-n-ge0.false in
    rw (f, t) (rw t at (mark-is c.args.n))
