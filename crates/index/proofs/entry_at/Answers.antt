-- Three bytes that are a number each make an entry at once; else it is taken number by number.
use mathlib.Core.Path.{◌∙◌}
use native.Mathlib.Omega.{arith}
use Rattle.index.proofs.Parts.{near-is}
use Rattle.index.proofs.entry_at.Goals as goal

pub bounds-s-at : goal.bounds-s-at
bounds-s-at c = let n = c.is_near.ensures c.if-is_near.true in omega (arith, n.inside)

pub overflow_cast-s : goal.overflow_cast-s
overflow_cast-s c = let n = c.is_near.ensures c.if-is_near.true in omega (arith, n.first)

pub overflow_add-at : goal.overflow_add-at
overflow_add-at c = let n = c.is_near.ensures c.if-is_near.true in omega (arith, n.inside)

pub bounds-s-at-then-is_near : goal.bounds-s-at-then-is_near
bounds-s-at-then-is_near c = let n = c.is_near.ensures c.if-is_near.true in omega (arith, n.inside)

pub overflow_cast-s-then-is_near : goal.overflow_cast-s-then-is_near
overflow_cast-s-then-is_near c = let n = c.is_near.ensures c.if-is_near.true in omega (arith, n.second)

pub overflow_add-at-then-is_near : goal.overflow_add-at-then-is_near
overflow_add-at-then-is_near c = let n = c.is_near.ensures c.if-is_near.true in omega (arith, n.inside)

pub bounds-s-at-then-is_near-2 : goal.bounds-s-at-then-is_near-2
bounds-s-at-then-is_near-2 c = let n = c.is_near.ensures c.if-is_near.true in omega
    (arith, n.inside)

pub overflow_cast-s-then-is_near-2 : goal.overflow_cast-s-then-is_near-2
overflow_cast-s-then-is_near-2 c = let n = c.is_near.ensures c.if-is_near.true in omega
    (arith, n.third)

pub overflow_add-at-then-is_near-2 : goal.overflow_add-at-then-is_near-2
overflow_add-at-then-is_near-2 c = let n = c.is_near.ensures c.if-is_near.true in omega
    (arith, n.inside)

pub made-requires : goal.made-requires
made-requires c = let n = c.is_near.ensures c.if-is_near.true in
    (omega (arith, n.first), (omega (arith, n.second), omega (arith, n.third)))

pub returns-then-is_near : goal.returns-then-is_near
returns-then-is_near c = c.made.ensures ∙ near-is c.args.s.now
    c.args.at
    c.args.last
    (c.is_near.ensures c.if-is_near.true)
