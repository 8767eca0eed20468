-- `pass` meets its contract: without its edges a line has no fields and is refused; with them its body and its digits decide.
use Prim.Native.Nat.{◌≤◌, ℕ}
use mathlib.Core.Path.{◌≡◌, ap₂, sym, ◌∙◌}
use mathlib.Core.Bool.{true}
use native.Mathlib.Omega.{arith}
use borrow.Author.Rules.{rules}
use lib.ListN.{length}
use Rattle.digits.proofs.Parts.{rest}
use Rattle.line.specs.declared.Passed.{Passed}
use Rattle.line.specs.Line.{body_of, edge_form, line_refusal}
use Rattle.line.specs.Ends.{ends_from}
use Rattle.line.proofs.Laws.{body-part, edges-seven, ends-none, ends_there, line-edges, line-no-edges}
use Rattle.line.proofs.Ending.{sets_same}
use Rattle.line.proofs.pass.Goals.{Else-not-edges}
use Rattle.line.proofs.pass.Goals as goal

abbrev answer : ℕ → ℕ → Passed
answer n count = record { no = n; count = count }

-- A line that has its edges is long enough.
has-edges : (c : Else-not-edges) → edge_form c.args.line.now ≡ true
has-edges c = sym c.edges.ensures ∙ c.if-not-edges.false

long : (c : Else-not-edges) → 7 ≤ length c.args.line.now
long c = edges-seven _ (has-edges c)

pub returns-then-not-edges : goal.returns-then-not-edges
returns-then-not-edges c =
    let e = sym c.edges.ensures ∙ c.if-not-edges.true in
    record {
      value = rw (line-no-edges c.args.line.now e, ends-none c.args.line.now e);
      ends_after = rw (ends-none c.args.line.now e);
    }

pub overflow_sub-n : goal.overflow_sub-n
overflow_sub-n c = omega (arith, long (goal.at.overflow_sub-n c).Else-not-edges)

pub slice_bounds-scan-count : goal.slice_bounds-scan-count
slice_bounds-scan-count c = omega (arith, long (goal.at.slice_bounds-scan-count c).Else-not-edges)

pub slice_bounds-scan-start : goal.slice_bounds-scan-start
slice_bounds-scan-start c = let l = long (goal.at.slice_bounds-scan-start c).Else-not-edges in search rules

pub overflow_sub-n-2 : goal.overflow_sub-n-2
overflow_sub-n-2 c = omega (arith, long (goal.at.overflow_sub-n-2 c).Else-not-edges)

pub end_gives-gives-requires : goal.end_gives-gives-requires
end_gives-gives-requires c = let l = long (goal.at.end_gives-gives-requires c).Else-not-edges in search rules

pub shape_of-ends : goal.shape_of-ends
shape_of-ends c =
    sets_same c.args.ends.now _ (ends_from 0 (body_of c.args.line.now)) (rw body-part at c.scan-found.ensures.count_value.1)

pub returns : goal.returns
returns c =
    let e = has-edges (goal.at.returns c).Else-not-edges in
    let said : c.judged.result ≡ line_refusal c.args.line.now = c.judged.ensures
    ∙ rw (rw body-part at c.scan-found.ensures.good_value.0, rw rest at c.end_gives-gives.ensures, rw body-part at c.scan-found.ensures.good_value.1) (sym (line-edges c.args.line.now e)) in
    record {
      value = ap₂ answer said (rw (ends_there c.args.line.now e) (rw body-part at c.scan-found.ensures.count_value.0));
      ends_after = rw (ends_there c.args.line.now e) (rw body-part at c.scan-found.ensures.count_value.1);
    }
