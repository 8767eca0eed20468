use Prim.Native.Nat.{◌<◌}
use mathlib.Core.Path.{◌≡◌}
use native.Mathlib.Omega.{arith}
use borrow.Author.Rules.{rules}
use lib.ListN.{get_or, length, take}
use lib.Seq.{length-take-le}
use Rattle.kind_gsv.specs.Blank.{blank_entry}
use Rattle.sky_write.specs.Size.{table_size}
use Rattle.sky_write.proofs.Counts.{length-mapped, lines_are}
use Rattle.sky_write.proofs.SizeLaws.{entry-few, sizes-next}
use Rattle.sky_write.proofs.sizes.room.Goals as goal

pub loop-e-init : goal.loop-e-init
unfolding table_size
loop-e-init c = (
  omega (arith, c.lines_for.ensures, (lines_are c.args.r.count).nine c.requires),
  omega (arith, c.lines_for.ensures),
)

pub overflow_add-size : goal.overflow_add-size
overflow_add-size c =
    let long : length c.args.r.entries ≡ 36 = search (rules, length-mapped) in
    let used = length-take-le c.args.r.count c.args.r.entries (omega (arith, long, c.requires)) in
    omega (
      arith,
      c.loop-e-test.true,
      used,
      c.requires,
      c.entry_size-size.ensures,
      entry-few (get_or (take c.args.r.count c.args.r.entries) c.loop-e.e-index blank_entry),
    )

pub loop-e-preserved : goal.loop-e-preserved
loop-e-preserved c =
    let long : length c.args.r.entries ≡ 36 = search (rules, length-mapped) in
    let used = length-take-le c.args.r.count c.args.r.entries (omega (arith, long, c.requires)) in
    let few = entry-few (get_or (take c.args.r.count c.args.r.entries) c.loop-e.e-index blank_entry) in
    let in-used : c.loop-e.e-index < length (take c.args.r.count c.args.r.entries) = omega (arith, c.loop-e-test.true, used) in
    let next = sizes-next (take c.args.r.count c.args.r.entries) c.loop-e.e-index in-used blank_entry in
    (omega (arith, few, c.entry_size-size.ensures), omega (arith, next, c.entry_size-size.ensures))
