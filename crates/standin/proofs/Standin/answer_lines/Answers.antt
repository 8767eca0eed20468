use Prim.Native.Nat.{ℕ, ◌≤◌}
use mathlib.Core.Path.{◌∙◌, ◌≡◌, ap, refl, sym}
use mathlib.Core.Bool.{true}
use mathlib.Core.List.{List, []}
use native.Mathlib.Omega.{arith}
use borrow.Author.Rules.{rules}
use lib.ListN.{length, take}
use Rattle.finder.specs.declared.Found.{Found}
use Rattle.finder.specs.Finder.{after_last, from_last, open_line}
use Rattle.finder.specs.Slice.{found_at}
use Rattle.finder.proofs.SliceLines.{NextLine, slice-line, slice-within}
use Rattle.standin.proofs.Standin.answer_lines.Goals as goal

-- A line that was found lies in `s`, and past it no line is open.
at-line : (s : List ℕ) (at : ℕ) (r : Found) → r ≡ found_at s at → open_line (take at s) ≡ [] → r.line ≡ true → NextLine s at r
at-line s at r e o f = rw e (slice-line _ _ o (sym (ap (λ (q : Found). q.line) e) ∙ f))

starts : (s : List ℕ) (at : ℕ) (r : Found) → r ≡ found_at s at → at ≤ length s → r.start ≤ r.end
starts s at r e h = rw e (slice-within _ _ h).1

pub loop-found-init : goal.loop-found-init
unfolding open_line after_last from_last
loop-found-init g c = record { inside = omega arith; shut = refl }

pub slice_bounds-answer_line-count : goal.slice_bounds-answer_line-count
slice_bounds-answer_line-count g c =
    starts c.args.s.now c.loop-found.at c.next_line-found.result c.next_line-found.ensures c.loop-found.invariant.inside

pub slice_bounds-answer_line-start : goal.slice_bounds-answer_line-start
slice_bounds-answer_line-start g c =
    let i = starts c.args.s.now c.loop-found.at c.next_line-found.result c.next_line-found.ensures c.loop-found.invariant.inside in
    search rules

pub slice_bounds-answer_line-end : goal.slice_bounds-answer_line-end
slice_bounds-answer_line-end g c =
    let n = at-line c.args.s.now c.loop-found.at c.next_line-found.result c.next_line-found.ensures c.loop-found.invariant.shut
    c.if-not-found.false in
    let e = n.within in search rules

pub loop-found-smaller : goal.loop-found-smaller
loop-found-smaller g c =
    let n = at-line c.args.s.now c.loop-found.at c.next_line-found.result c.next_line-found.ensures c.loop-found.invariant.shut
    c.if-not-found.false in
    omega (arith, n.onward, n.within)

pub loop-found-preserved : goal.loop-found-preserved
loop-found-preserved g c =
    let n = at-line c.args.s.now c.loop-found.at c.next_line-found.result c.next_line-found.ensures c.loop-found.invariant.shut
    c.if-not-found.false in
    record { inside = n.within; shut = n.shut }
