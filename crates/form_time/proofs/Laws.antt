-- A time is a lawful form; an empty field completes it.
use mathlib.Core.Path.{refl}
use native.Mathlib.Omega.{arith}
use Rattle.form.proofs.FormLaws.{lawful-single, short-single}
use Rattle.form.proofs.Laws.{LawfulForm, ShortForm}
use Rattle.form.proofs.PlaceForms.{prefix-maybe}
use Rattle.form.proofs.PlaceLaws.{PrefixForm}
use Rattle.form_time.specs.Time.{time, time_form, time_of}
use Rattle.form_time.proofs.Back.{field-time, long-time, time-back, time-in, time-short}

-- A time of day.
pub lawful-time : LawfulForm time
lawful-time =
    lawful-single time_form (λ m. time-back m.there m.value) (λ m e. refl) (λ m e. refl) time-in (λ m e. field-time m)
    (λ m e. omega (arith, long-time m))

pub short-time : ShortForm time
short-time = short-single time_form time-short

pub prefix-time : PrefixForm time
prefix-time = prefix-maybe time_of
