-- The numbers of a GSA in parts: those before its satellites, theirs, and those after them.
use mathlib.Core.Path.{◌∙◌, ◌≡◌, ap, sym}
use mathlib.Core.List.{[], ◌++◌, ◌∷◌, List}
use native.Mathlib.Omega.{arith}
use lib.IntN.{pos, ℤ}
use lib.ListN.{length, length-append}
use Rattle.address.specs.declared.Talker.{Talker}
use Rattle.form.specs.declared.Maybe.{Maybe}
use Rattle.form.specs.Values.{no_maybe}
use Rattle.form.specs.Numbers.{maybe_layout}
use Rattle.form.proofs.Numbers.{lawful-maybe}
use Rattle.numbers.specs.Numbers.{mark_of, talker_number}
use Rattle.numbers.specs.Layout.{list_numbers, standard_numbers}
use Rattle.numbers.proofs.Arrays.{from_all, list-onto}
use Rattle.numbers.proofs.Laying.{many}
use Rattle.kind_gsa.specs.declared.Gsa.{Gsa}
use Rattle.kind_gsa.specs.Row.{gsa_layout, gsa_numbers}

abbrev pub gsa_first : Talker → Gsa → List ℤ
gsa_first t r = pos (talker_number t) ∷ pos r.selection ∷ pos r.fix ∷ []

abbrev pub gsa_last : Gsa → List ℤ
gsa_last r =
    pos (mark_of r.pdop.there)
    ∷ pos r.pdop.value
    ∷ pos (mark_of r.hdop.there)
    ∷ pos r.hdop.value
    ∷ pos (mark_of r.vdop.there)
    ∷ pos r.vdop.value
    ∷ []

abbrev pub twelve : Gsa → List ℤ
twelve r = list_numbers maybe_layout r.satellites []

module _ (t : Talker) (r : Gsa) (full : length r.satellites ≡ 12) where
  pub gsa-parts : (gsa_first t r ++ twelve r) ++ gsa_last r ≡ gsa_numbers t r
  unfolding gsa_layout standard_numbers
  gsa-parts =
      ap (λ (l : List ℤ). gsa_first t r ++ l) (sym (list-onto lawful-maybe r.satellites (gsa_last r))
      ∙ ap (λ (vs : List Maybe). list_numbers maybe_layout vs (gsa_last r)) (sym (from_all no_maybe r.satellites 12 full)))

  pub twelve-long : length (twelve r) ≡ 24
  twelve-long = omega (arith, many lawful-maybe no_maybe r.satellites, full)

  pub gsa-long : length (gsa_numbers t r) ≡ 33
  gsa-long = ap length (sym gsa-parts) ∙ omega (arith, length-append (twelve r) (gsa_last r), twelve-long)
