-- The gap from the end of the line before is taken, and the length behind it; or the bytes end, or are none.
use mathlib.Core.Path.{◌∙◌, ap, sym}
use lib.ListN.{length}
use Rattle.index_sevens.proofs.Taking.{taken, taken-bad, taken-short}
use Rattle.index.specs.Places.{next_at}
use Rattle.index.proofs.Parts.{skip-bad, skip-short, skip-value}
use Rattle.index.proofs.with_skip.Goals as goal

pub with_length-requires : goal.with_length-requires
with_length-requires c = (
  c.requires,
  (taken c.args.s.now c.args.at
      c.in-Value.skip c.in-Value.a
      (sym c.take-skip.ensures ∙ c.in-Value.is)).small,
)

pub returns-in-Value : goal.returns-in-Value
returns-in-Value c = c.with_length.ensures ∙ ap (next_at (length c.args.s.now))
    (skip-value c.args.s.now
    c.args.at c.args.last
    c.args.gap c.in-Value.skip
    c.in-Value.a
    (taken c.args.s.now c.args.at
    c.in-Value.skip c.in-Value.a
    (sym c.take-skip.ensures ∙ c.in-Value.is)))

pub returns-in-Short : goal.returns-in-Short
returns-in-Short c = skip-short c.args.s.now c.args.at
    c.args.last c.args.gap
    (taken-short c.args.s.now c.args.at
    (sym c.take-skip.ensures ∙ c.in-Short.is))

pub returns-in-Bad : goal.returns-in-Bad
returns-in-Bad c = skip-bad c.args.s.now c.args.at
    c.args.last c.args.gap
    (taken-bad c.args.s.now c.args.at
    (sym c.take-skip.ensures ∙ c.in-Bad.is))
