-- Field after field.
use mathlib.Core.Path.{◌≡◌}
use native.Mathlib.Omega.{arith}
use lib.ListN.{length}
use Rattle.std.proofs.Common.{rules}
use Rattle.put.proofs.Chain.{◌then◌}
use Rattle.form.specs.Kind.{fields_for}
use Rattle.numbers.proofs.Laying.{length-mapped}
use Rattle.kind_gsa.proofs.Satellites.{all-behind, twelve-fields, two-parts}
use Rattle.kind_gsa.specs.Row.{gsa_fields, gsa_row}
use Rattle.kind_gsa.proofs.GsaRecord.put_fields.Goals as goal

pub returns : goal.returns
unfolding gsa_fields fields_for gsa_row
returns c =
    let full : length c.args.self.satellites ≡ 12 = search (rules, length-mapped) in
    let satellites = two-parts c.args.self.satellites 6 _ c.put_satellites-a2.ensures c.put_satellites-a3.ensures
    (search (rules, full, all-behind)) in
    c.letter-a0.ensures then c.one-a1.ensures then twelve-fields c.args.self.satellites full satellites
    then c.number-a4.ensures then c.number-a5.ensures then c.number.ensures
