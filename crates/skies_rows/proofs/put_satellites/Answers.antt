use Prim.Native.Nat.{◌<◌, ◌≤◌, min, ℕ}
use mathlib.Core.Path.{◌∙◌, ◌≡◌, ap}
use native.Mathlib.Omega.{arith}
use lib.ListN.{length, take}
use lib.Seq.{length-take-le}
use Rattle.put.specs.Wrote.{held, wrote}
use Rattle.numbers.proofs.Laying.{length-mapped}
use Rattle.skies_rows.specs.Rows.{satellites_text}
use Rattle.skies_rows.proofs.Laws.{rows_end, rows_next}
use borrow.Author.Rules.{rules}
use Rattle.skies_rows.proofs.put_satellites.Goals as goal

pub loop-e-preserved : goal.loop-e-preserved
loop-e-preserved c =
    let full : length c.args.table.entries ≡ 36 = search (rules, length-mapped) in
    let few : c.min.result ≤ length c.args.table.entries = omega (arith, full, c.min.ensures) in
    let in-used : c.loop-e.e-index < length (take c.min.result c.args.table.entries) =
    omega (arith, c.loop-e-test.true, length-take-le c.min.result c.args.table.entries few) in (
      omega arith,
      rows_next (take c.min.result c.args.table.entries) c.loop-e.e-index in-used c.put_satellite-place.ensures ∙ c.loop-e.invariant.1,
    )

pub returns : goal.returns
returns c =
    let full : length c.args.table.entries ≡ 36 = search (rules, length-mapped) in
    let few : c.min.result ≤ length c.args.table.entries = omega (arith, full, c.min.ensures) in
    let past : length (take c.min.result c.args.table.entries) ≤ c.loop-e.e-index =
    omega (arith, c.loop-e-test.false, length-take-le c.min.result c.args.table.entries few) in
    let same : c.min.result ≡ min 36 c.args.table.count = omega (arith, c.min.ensures) in
    record {
      is = rows_end (take c.min.result c.args.table.entries) c.loop-e.e-index (held c.loop-e.place c.loop-e.out) past
          ∙ c.loop-e.invariant.1
          ∙ ap (λ (n : ℕ). wrote (held c.args.at c.args.out.now) (satellites_text (take n c.args.table.entries))) same;
    }
