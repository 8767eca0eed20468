use mathlib.Core.Path.{refl}
use native.Mathlib.Omega.{arith}
use borrow.Author.Rules.{rules}
use Rattle.finder.specs.Finder.{after_last, from_last, open_line}
use Rattle.listing.proofs.Lines.{at-line, within}
use Rattle.listing.proofs.Listing.list_lines.Goals as goal

pub loop-self-init : goal.loop-self-init
unfolding open_line after_last from_last
loop-self-init g c = record { inside = omega arith; shut = refl }

pub slice_bounds-pass-count : goal.slice_bounds-pass-count
slice_bounds-pass-count g c =
    (within c.args.s.now c.loop-self.at c.next_line-found.result c.next_line-found.ensures c.loop-self.invariant.inside).0

pub slice_bounds-pass-start : goal.slice_bounds-pass-start
slice_bounds-pass-start g c =
    let w = within c.args.s.now c.loop-self.at c.next_line-found.result c.next_line-found.ensures c.loop-self.invariant.inside in
    let i = w.0 in let j = w.1 in let k = w.2 in search rules

pub slice_bounds-pass-end : goal.slice_bounds-pass-end
slice_bounds-pass-end g c =
    let w = within c.args.s.now c.loop-self.at c.next_line-found.result c.next_line-found.ensures c.loop-self.invariant.inside in
    let j = w.1 in let k = w.2 in search rules

pub slice_bounds-take_line-count : goal.slice_bounds-take_line-count
slice_bounds-take_line-count g c =
    (within c.args.s.now c.loop-self.at c.next_line-found.result c.next_line-found.ensures c.loop-self.invariant.inside).1

pub slice_bounds-take_line-start : goal.slice_bounds-take_line-start
slice_bounds-take_line-start g c =
    let w = within c.args.s.now c.loop-self.at c.next_line-found.result c.next_line-found.ensures c.loop-self.invariant.inside in
    let i = w.1 in let j = w.2 in search rules

pub slice_bounds-take_line-end : goal.slice_bounds-take_line-end
slice_bounds-take_line-end g c =
    let w = within c.args.s.now c.loop-self.at c.next_line-found.result c.next_line-found.ensures c.loop-self.invariant.inside in
    let j = w.2 in search rules

pub loop-self-smaller-then-is_full : goal.loop-self-smaller-then-is_full
loop-self-smaller-then-is_full g c =
    let n = at-line c.args.s.now c.loop-self.at c.next_line-found.result c.next_line-found.ensures c.loop-self.invariant.shut
    c.if-not-found.false in
    omega (arith, n.onward, n.within)

pub loop-self-preserved-then-is_full : goal.loop-self-preserved-then-is_full
loop-self-preserved-then-is_full g c =
    let n = at-line c.args.s.now c.loop-self.at c.next_line-found.result c.next_line-found.ensures c.loop-self.invariant.shut
    c.if-not-found.false in
    record { inside = n.within; shut = n.shut }

pub loop-self-smaller : goal.loop-self-smaller
loop-self-smaller g c =
    let n = at-line c.args.s.now c.loop-self.at c.next_line-found.result c.next_line-found.ensures c.loop-self.invariant.shut
    c.if-not-found.false in
    omega (arith, n.onward, n.within)

pub loop-self-preserved : goal.loop-self-preserved
loop-self-preserved g c =
    let n = at-line c.args.s.now c.loop-self.at c.next_line-found.result c.next_line-found.ensures c.loop-self.invariant.shut
    c.if-not-found.false in
    record { inside = n.within; shut = n.shut }
