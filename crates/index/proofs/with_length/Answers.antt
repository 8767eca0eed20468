-- The length is taken, and with it the entry is made; or the bytes end, or are none.
use mathlib.Core.Path.{◌∙◌, sym}
use Rattle.index_sevens.proofs.Taking.{taken, taken-bad, taken-short}
use Rattle.index.proofs.Parts.{length-bad, length-short, length-value}
use Rattle.index.proofs.with_length.Goals as goal

pub made-requires : goal.made-requires
made-requires c = (
  c.requires.0,
  (
    c.requires.1,
    (taken c.args.s.now
        c.args.at c.in-Value.length c.in-Value.a
        (sym c.take-length.ensures ∙ c.in-Value.is)).small,
  ),
)

pub returns-in-Value : goal.returns-in-Value
returns-in-Value c = c.made.ensures ∙ length-value c.args.s.now
    c.args.at c.args.last
    c.args.gap c.args.skip
    c.in-Value.length c.in-Value.a
    (taken c.args.s.now c.args.at
    c.in-Value.length c.in-Value.a
    (sym c.take-length.ensures ∙ c.in-Value.is))

pub returns-in-Short : goal.returns-in-Short
returns-in-Short c = length-short c.args.s.now c.args.at
    c.args.last c.args.gap
    c.args.skip
    (taken-short c.args.s.now c.args.at
    (sym c.take-length.ensures ∙ c.in-Short.is))

pub returns-in-Bad : goal.returns-in-Bad
returns-in-Bad c = length-bad c.args.s.now c.args.at
    c.args.last c.args.gap
    c.args.skip
    (taken-bad c.args.s.now c.args.at
    (sym c.take-length.ensures ∙ c.in-Bad.is))
