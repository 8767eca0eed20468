-- A number that 32 bits hold is itself.
use borrow.Author.Rules.{rules}
use mir.Syntax.{w64}
use mir.Facts.{to_z-of_z}
use Rattle.numbers.proofs.Fitting.{whole-held}
use Rattle.numbers.proofs.whole.Goals as goal

pub returns : goal.returns
returns c =
    let plain = to_z-of_z {w = w64} {z = c.args.n} (search rules) in
    rw (c.min.ensures, c.from.ensures, c.cast_unsigned.ensures, plain) (whole-held c.args.n c.ranges.n)
