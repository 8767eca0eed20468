-- The numbers of a GSV in parts: those before its satellites, and theirs.
use mathlib.Core.Path.{◌∙◌, ◌≡◌, ap, refl, sym}
use mathlib.Core.List.{[], ◌++◌, ◌∷◌, List}
use native.Mathlib.Omega.{arith}
use lib.IntN.{pos, ℤ}
use lib.ListN.{length}
use Rattle.address.specs.declared.Talker.{Talker}
use Rattle.form.specs.Numbers.{maybe_layout}
use Rattle.form.proofs.Numbers.{lawful-maybe}
use Rattle.numbers.specs.Numbers.{talker_number}
use Rattle.numbers.specs.Layout.{◌then◌, list_numbers, standard_numbers, whole}
use Rattle.numbers.proofs.Arrays.{from_all}
use Rattle.numbers.proofs.Layouts.{LawfulLayout, lawful-whole, ◌⊗◌, lawful-shaped}
use Rattle.numbers.proofs.Laying.{many}
use Rattle.kind_gsv.specs.declared.Entry.{Entry}
use Rattle.kind_gsv.specs.declared.Gsv.{Gsv}
use Rattle.kind_gsv.specs.Blank.{blank_entry}
use Rattle.kind_gsv.specs.Row.{entry_layout, gsv_layout, gsv_numbers}

pub lawful-entry : LawfulLayout entry_layout
lawful-entry =
    lawful-shaped (λ v. record { number = v.0; elevation = v.1.0; azimuth = v.1.1.0; signal = v.1.1.1 })
    (λ e. (e.number, (e.elevation, (e.azimuth, e.signal)))) (whole then maybe_layout then maybe_layout then maybe_layout) (λ e. refl)
    (lawful-whole ⊗ lawful-maybe ⊗ lawful-maybe ⊗ lawful-maybe)

abbrev pub gsv_first : Talker → Gsv → List ℤ
gsv_first t r = pos (talker_number t) ∷ pos r.lines ∷ pos r.line ∷ pos r.satellites ∷ pos r.count ∷ []

abbrev pub four : Gsv → List ℤ
four r = list_numbers entry_layout r.entries []

module _ (t : Talker) (r : Gsv) (full : length r.entries ≡ 4) where
  pub gsv-parts : gsv_first t r ++ four r ≡ gsv_numbers t r
  unfolding gsv_layout standard_numbers
  gsv-parts = ap (λ (vs : List Entry). gsv_first t r ++ list_numbers entry_layout vs []) (sym (from_all blank_entry r.entries 4 full))

  pub four-long : length (four r) ≡ 28
  four-long = omega (arith, many lawful-entry blank_entry r.entries, full)

  pub gsv-long : length (gsv_numbers t r) ≡ 33
  gsv-long = ap length (sym gsv-parts) ∙ omega (arith, four-long)
