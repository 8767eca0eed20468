use Prim.Native.Nat.{◌<◌, ◌≤◌}
use mathlib.Core.Path.{◌∙◌, ◌≡◌, refl, sym}
use native.Mathlib.Omega.{arith}
use borrow.Author.Rules.{rules}
use lib.ListN.{length, take}
use lib.Seq.{length-take-le}
use Rattle.kind_gsv.specs.Blank.{blank_entry}
use Rattle.frame.proofs.Sealing.{fault-none}
use Rattle.sky_write.proofs.Counts.{length-mapped}
use Rattle.sky_write.proofs.FaultLaws.{fault-end, fault-next, fault-stop, marks-next}
use Rattle.sky_write.proofs.faults.used_fault.Goals as goal

pub returns-then-fault-ne0 : goal.returns-then-fault-ne0
returns-then-fault-ne0 c =
    let used = take c.args.r.count c.args.r.entries in
    let long : length c.args.r.entries ≡ 36 = search (rules, length-mapped) in
    let few : c.args.r.count ≤ length c.args.r.entries = omega (arith, long, c.requires.0) in
    let in-used : c.loop-i.i < length (take c.args.r.count c.args.r.entries) =
    omega (arith, c.loop-i-test.true, length-take-le c.args.r.count c.args.r.entries few) in
    sym (c.loop-i.invariant.1.1 ∙ fault-stop used c.loop-i.i in-used blank_entry
    (c.entry_fault-fault.ensures.answers (take c.loop-i.i used) c.loop-i.invariant.1.0) c.if-fault-ne0.true)

pub loop-i-preserved : goal.loop-i-preserved
loop-i-preserved c =
    let used = take c.args.r.count c.args.r.entries in
    let long : length c.args.r.entries ≡ 36 = search (rules, length-mapped) in
    let few : c.args.r.count ≤ length c.args.r.entries = omega (arith, long, c.requires.0) in
    let in-used : c.loop-i.i < length (take c.args.r.count c.args.r.entries) =
    omega (arith, c.loop-i-test.true, length-take-le c.args.r.count c.args.r.entries few) in
    let a = c.entry_fault-fault.ensures.answers (take c.loop-i.i used) c.loop-i.invariant.1.0 in
    let marked = c.entry_fault-fault.ensures.marks (take c.loop-i.i used) c.loop-i.invariant.1.0 c.if-fault-ne0.false in (
      c.entry_fault-fault.ensures.long ∙ c.loop-i.invariant.0,
      (
        marks-next used c.loop-i.i in-used blank_entry a c.entry_fault-fault.new.seen marked,
        c.loop-i.invariant.1.1 ∙ fault-next used c.loop-i.i in-used blank_entry a c.if-fault-ne0.false,
      ),
    )

pub returns : goal.returns
returns c =
    let used = take c.args.r.count c.args.r.entries in
    let long : length c.args.r.entries ≡ 36 = search (rules, length-mapped) in
    let few : c.args.r.count ≤ length c.args.r.entries = omega (arith, long, c.requires.0) in
    let past : length (take c.args.r.count c.args.r.entries) ≤ c.loop-i.i =
    omega (arith, c.loop-i-test.false, length-take-le c.args.r.count c.args.r.entries few) in
    c.fault.ensures
    ∙ sym (c.loop-i.invariant.1.1 ∙ fault-end used (take c.loop-i.i used) c.loop-i.i past ∙ fault-none 0 refl)
