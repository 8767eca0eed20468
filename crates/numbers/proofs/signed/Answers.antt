-- The number that is held fits in 32 bits, so the cast leaves it.
use mathlib.Core.Path.{◌≡◌, ◌∙◌}
use borrow.Author.Rules.{rules}
use mir.Syntax.{w32, w64}
use mir.Val.{SFits}
use mir.Facts.{to_z-of_z}
use Rattle.numbers.specs.Numbers.{signed_of}
use Rattle.numbers.proofs.Fitting.{clamped}
use Rattle.numbers.proofs.signed.Goals as goal

pub returns : goal.returns
returns c =
    let e : c.clamp.result ≡ signed_of c.args.n =
    (rw (c.from.ensures, c.from-2.ensures, to_z-of_z {w = w64} {z = c.args.n} (search rules)) at c.clamp.ensures.value) ∙ clamped c.args.n in
    let wide : SFits w64 c.clamp.result = search rules in
    let held : SFits w32 c.clamp.result = search rules in
    rw (to_z-of_z wide) (to_z-of_z held ∙ e)
