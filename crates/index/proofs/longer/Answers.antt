-- The gap in number is taken, and the rest behind it; or the bytes end, or are none.
use mathlib.Core.Path.{◌∙◌, ap, sym}
use lib.ListN.{length}
use Rattle.index_sevens.proofs.Taking.{taken, taken-bad, taken-short}
use Rattle.index.specs.Places.{next_at}
use Rattle.index.proofs.Parts.{gap-bad, gap-short, gap-value}
use Rattle.index.proofs.longer.Goals as goal

pub with_skip-requires : goal.with_skip-requires
with_skip-requires c = (taken c.args.s.now
    c.args.at c.in-Value.gap c.in-Value.a
    (sym c.take-gap.ensures ∙ c.in-Value.is)).small

pub returns-in-Value : goal.returns-in-Value
returns-in-Value c = c.with_skip.ensures ∙ ap (next_at (length c.args.s.now))
    (gap-value c.args.s.now
    c.args.at c.args.last
    c.in-Value.gap c.in-Value.a
    (taken c.args.s.now c.args.at
    c.in-Value.gap c.in-Value.a
    (sym c.take-gap.ensures ∙ c.in-Value.is)))

pub returns-in-Short : goal.returns-in-Short
returns-in-Short c = gap-short c.args.s.now c.args.at
    c.args.last
    (taken-short c.args.s.now c.args.at
    (sym c.take-gap.ensures ∙ c.in-Short.is))

pub returns-in-Bad : goal.returns-in-Bad
returns-in-Bad c = gap-bad c.args.s.now c.args.at
    c.args.last
    (taken-bad c.args.s.now c.args.at
    (sym c.take-gap.ensures ∙ c.in-Bad.is))
