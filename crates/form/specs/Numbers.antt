-- A value that may be missing, as numbers: its mark, then the value.
use Rattle.numbers.specs.Layout.{Layout, marked, shaped, whole}
use Rattle.form.specs.declared.Maybe.{Maybe}

abbrev pub maybe_layout : Layout Maybe
maybe_layout = shaped (λ v. record { there = v.0; value = v.1 }) (λ r. (r.there, r.value)) (marked 1 whole)
