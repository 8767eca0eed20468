-- The table at the numbers of a table that 32 bits hold is that table, and so is its talker, whatever follows: by the laws of its layout.
use Prim.Native.Nat.{◌≤◌}
use mathlib.Core.Path.{◌≡◌, refl, ◌∙◌, ap}
use mathlib.Core.Bool.{true}
use mathlib.Core.List.{List, [], ◌++◌}
use native.Mathlib.Omega.{arith}
use lib.IntN.{ℤ}
use lib.ListN.{length, drop}
use Rattle.address.specs.declared.Talker.{Talker}
use Rattle.kind_gsv.specs.Blank.{blank_entry}
use Rattle.sky.specs.declared.Table.{Table}
use Rattle.numbers.specs.Numbers.{laid}
use Rattle.numbers.specs.Layout.{◌then◌, several, standard, standard_numbers, talker_layout, whole}
use Rattle.kind_gsv.specs.Row.{entry_layout}
use Rattle.numbers.proofs.Arrays.{lawful-several}
use Rattle.numbers.proofs.Laying.{laid-is}
use Rattle.numbers.proofs.Layouts.{LawfulLayout, lawful-whole, lawful-shaped, ◌⊗◌}
use Rattle.kind_gsv.proofs.Numbers.{lawful-entry}
use Rattle.numbers.proofs.Values.{lawful-talker, numbers-back, talker-held}
use Rattle.sky_numbers.specs.Numbers.{table_layout, sky_numbers, table_at}
use Rattle.sky_numbers.proofs.Laying.{sky-long}

pub lawful-table : LawfulLayout table_layout
unfolding table_layout
lawful-table =
    lawful-shaped (λ v. record { count = v.0; entries = v.1 }) (λ r. (r.count, r.entries))
    (whole then several 36 blank_entry entry_layout) (λ r. refl) (lawful-whole ⊗ lawful-several 36 blank_entry lawful-entry)

module _ (t : Talker) (r : Table) (full : length r.entries ≡ 36) (held : table_layout.held r ≡ true) where
  pub back : (rest : List ℤ) → (standard table_layout).at (sky_numbers t r ++ rest) 0 ≡ (t, r)
  unfolding standard_numbers
  back rest = numbers-back (lawful-talker ⊗ lawful-table) [] (t, r) rest (rw (talker-held t, held))

  pub laid-back : (out : List ℤ) → 254 ≤ length out
      → (talker_layout.at (laid (sky_numbers t r) out) 0 ≡ t) × (table_at (laid (sky_numbers t r) out) ≡ r)
  laid-back out h =
      let e =
      ap (λ (n : List ℤ). (standard table_layout).at n 0) (laid-is (sky_numbers t r) out (omega (arith, sky-long t r full, h)))
      ∙ back (drop (length (sky_numbers t r)) out) in
      (ap (λ (v : Talker × Table). v.0) e, ap (λ (v : Talker × Table). v.1) e)
