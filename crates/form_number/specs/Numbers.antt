-- Numbers of a sentence, as numbers of a host: a mark, then the value in thousandths.
use Rattle.std.specs.Prelude.{pos}
use Rattle.numbers.specs.Layout.{Layout, marked, shaped, signed, whole}
use Rattle.form_number.specs.declared.Number.{Number}
use Rattle.form_number.specs.declared.Knots.{Knots}
use Rattle.form_number.specs.declared.Kmh.{Kmh}
use Rattle.form_number.specs.declared.Signed.{Signed}

abbrev pub number_layout : Layout Number
number_layout = shaped (λ v. record { there = v.0; value = v.1 }) (λ r. (r.there, r.value)) (marked 1 whole)

abbrev pub knots_layout : Layout Knots
knots_layout = shaped (λ v. record { there = v.0; value = v.1 }) (λ r. (r.there, r.value)) (marked 1 whole)

abbrev pub kmh_layout : Layout Kmh
kmh_layout = shaped (λ v. record { there = v.0; value = v.1 }) (λ r. (r.there, r.value)) (marked 1 whole)

abbrev pub signed_layout : Layout Signed
signed_layout = shaped (λ v. record { there = v.0; value = v.1 }) (λ r. (r.there, r.value)) (marked (pos 1) signed)
