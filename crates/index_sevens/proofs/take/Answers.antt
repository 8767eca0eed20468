use native.Mathlib.Omega.{arith}
use mathlib.Core.Path.{◌∙◌, ap}
use Prim.Native.Nat.{◌<◌}
use lib.ListN.{length}
use Rattle.index_sevens.specs.Places.{taken_at}
use Rattle.index_sevens.proofs.Steps.{first_more, first-none, first-value}
use Rattle.index_sevens.proofs.take.Goals as goal

pub returns-then-s-at : goal.returns-then-s-at
returns-then-s-at c = first-none c.args.s.now c.args.at c.if-s-at.true

pub returns-then-b-lt128 : goal.returns-then-b-lt128
returns-then-b-lt128 c = first-value c.args.s.now c.args.at
    c.if-s-at.false c.from-b.result c.from-b.ensures c.if-b-lt128.true

pub take_more-requires : goal.take_more-requires
take_more-requires c = omega
    (arith, c.from-b.ensures, c.type_inv.s c.args.at)

pub returns : goal.returns
returns c = let byte : c.from-b.result < 256 = omega (
  arith,
  c.from-b.ensures,
  c.type_inv.s c.args.at,
) in
    c.take_more.ensures ∙ ap (taken_at (length c.args.s.now))
    (first_more c.args.s.now
    c.args.at c.if-s-at.false
    c.from-b.result c.from-b.ensures c.if-b-lt128.false byte)
