use mathlib.Core.Path.{◌≡◌}
use native.Mathlib.Omega.{arith}
use borrow.Author.Rules.{rules}
use lib.ListN.{length}
use Rattle.sky_write.proofs.Counts.{length-mapped}
use Rattle.sky_write.proofs.LineLaws.{clear-is}
use Rattle.sky_write.proofs.PutLaws.{next_place, nine, put_all, put_next, put-none}
use Rattle.sky_write.proofs.put_lines.Goals as goal

pub overflow_cast-r : goal.overflow_cast-r
overflow_cast-r c =
    let full : length c.args.r.entries ≡ 36 = search (rules, length-mapped) in
    omega (arith, (clear-is c.args.r full c.requires.good).few)

pub lines_for-lines-requires : goal.lines_for-lines-requires
lines_for-lines-requires c =
    let full : length c.args.r.entries ≡ 36 = search (rules, length-mapped) in
    omega (arith, (clear-is c.args.r full c.requires.good).few)

pub loop-k-init : goal.loop-k-init
loop-k-init c = put-none c.args.t c.args.r c.args.out.now c.lines_for-lines.result c.lines_for-lines.ensures

pub line_of-line-requires : goal.line_of-line-requires
line_of-line-requires c =
    let full : length c.args.r.entries ≡ 36 = search (rules, length-mapped) in (
      c.loop-k.invariant.some,
      (
        nine c.args.t c.args.r c.args.out.now c.lines_for-lines.result c.lines_for-lines.ensures full c.requires c.loop-k.invariant
            c.loop-k-test.true,
        (clear-is c.args.r full c.requires.good).few,
      ),
    )

pub overflow_add-at : goal.overflow_add-at
overflow_add-at c =
    let full : length c.args.r.entries ≡ 36 = search (rules, length-mapped) in
    let h = next_place c.args.t c.args.r c.args.out.now c.lines_for-lines.result c.lines_for-lines.ensures full c.requires
    c.loop-k.invariant c.loop-k-test.true c.line_of-line.ensures c.write-written.ensures in
    omega (arith, h)

pub loop-k-preserved : goal.loop-k-preserved
loop-k-preserved c =
    let full : length c.args.r.entries ≡ 36 = search (rules, length-mapped) in
    put_next c.args.t c.args.r c.args.out.now c.lines_for-lines.result c.lines_for-lines.ensures full c.requires c.loop-k.invariant
    c.loop-k-test.true c.line_of-line.ensures c.write-written.ensures

-- Behind the last line, which is the first where there is but one.
pub returns-2 : goal.returns-2
returns-2 c =
    let full : length c.args.r.entries ≡ 36 = search (rules, length-mapped) in
    let last = put_next c.args.t c.args.r c.args.out.now c.lines_for-lines.result c.lines_for-lines.ensures full c.requires
    c.loop-k.invariant c.loop-k-test.true c.line_of-line.ensures c.write-written.ensures in
    put_all c.args.t c.args.r c.args.out.now c.lines_for-lines.result c.lines_for-lines.ensures full c.requires last (omega arith)
