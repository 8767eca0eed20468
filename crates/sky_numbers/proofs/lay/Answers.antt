-- Talker and count, and the entries behind them, are the numbers of the table.
use Prim.Native.Nat.{◌≤◌}
use mathlib.Core.Path.{◌≡◌, refl, sym, ap, ◌∙◌}
use mathlib.Core.List.{List}
use native.Mathlib.Omega.{arith}
use borrow.Author.Rules.{rules}
use borrow.Author.Tests.{le-leb, lt-leb}
use lib.IntN.{ℤ}
use lib.ListN.{length}
use mir.Syntax.{w64}
use mir.ValLaws.{to_z_pos}
use Rattle.numbers.specs.Numbers.{laid}
use Rattle.numbers.proofs.Laying.{length-mapped, laid-not, laid-two}
use Rattle.numbers.proofs.Rows.{◌⋮◌, talker-is}
use Rattle.sky_numbers.specs.Numbers.{sky_numbers}
use Rattle.sky_numbers.proofs.Laying.{sky_first, places, sky-parts, places-long, sky-long}
use Rattle.sky_numbers.proofs.lay.Goals as goal

pub returns-then-out-lt254 : goal.returns-then-out-lt254
returns-then-out-lt254 c =
    let full : length c.args.r.entries ≡ 36 =
    search (rules, length-mapped) in
    let long = sky-long c.args.t c.args.r (full) in record {
      value = sym (lt-leb 254 (length c.args.out.now) c.if-out-lt254.true);
      out_after = sym (laid-not (sky_numbers c.args.t c.args.r) c.args.out.now (omega (arith, long, c.if-out-lt254.true)));
    }

pub returns : goal.returns
returns c =
    let full : length c.args.r.entries ≡ 36 =
    search (rules, length-mapped) in
    let small : c.args.r.count ≤ 36 = c.requires in
    let first = talker-is c.args.t _ c.talker_number-talker.ensures ⋮ to_z_pos w64 c.args.r.count (omega (arith, small)) ⋮ refl in
    let two =
    laid-two (sky_first c.args.t c.args.r) (places c.args.r) c.args.out.now 2 refl (omega (arith, places-long c.args.t c.args.r (full), c.if-out-lt254.false)) _
    (c.lay.ensures.out_after ∙ ap (λ (l : List ℤ). laid l c.args.out.now) first) c.lay_entries.ensures in record {
      value = sym (le-leb 254 (length c.args.out.now) c.if-out-lt254.false);
      out_after = two ∙ ap (λ (l : List ℤ). laid l c.args.out.now) (sky-parts c.args.t c.args.r (full));
    }
