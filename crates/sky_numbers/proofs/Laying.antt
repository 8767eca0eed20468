-- The numbers of a sky in parts: talker and count, and those of the entries.
use mathlib.Core.Path.{◌≡◌, sym, ap, ◌∙◌}
use mathlib.Core.List.{List, [], ◌∷◌, ◌++◌}
use native.Mathlib.Omega.{arith}
use lib.IntN.{ℤ, pos}
use lib.ListN.{length}
use Rattle.address.specs.declared.Talker.{Talker}
use Rattle.kind_gsv.specs.declared.Entry.{Entry}
use Rattle.kind_gsv.specs.Blank.{blank_entry}
use Rattle.sky.specs.declared.Table.{Table}
use Rattle.numbers.specs.Numbers.{talker_number}
use Rattle.numbers.specs.Layout.{list_numbers, standard_numbers}
use Rattle.kind_gsv.specs.Row.{entry_layout}
use Rattle.numbers.proofs.Arrays.{from_all}
use Rattle.numbers.proofs.Laying.{many}
use Rattle.kind_gsv.proofs.Numbers.{lawful-entry}
use Rattle.sky_numbers.specs.Numbers.{table_layout, sky_numbers}

abbrev pub sky_first : Talker → Table → List ℤ
sky_first t r = pos (talker_number t) ∷ pos r.count ∷ []

abbrev pub places : Table → List ℤ
places r = list_numbers entry_layout r.entries []

module _ (t : Talker) (r : Table) (full : length r.entries ≡ 36) where
  pub sky-parts : sky_first t r ++ places r ≡ sky_numbers t r
  unfolding table_layout standard_numbers
  sky-parts = ap (λ (vs : List Entry). sky_first t r ++ list_numbers entry_layout vs []) (sym (from_all blank_entry r.entries 36 full))

  pub places-long : length (places r) ≡ 252
  places-long = omega (arith, many lawful-entry blank_entry r.entries, full)

  pub sky-long : length (sky_numbers t r) ≡ 254
  sky-long = ap length (sym sky-parts) ∙ omega (arith, places-long)
