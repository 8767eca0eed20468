-- The settings at the numbers of settings that 32 bits hold are those settings, whatever follows: by the laws of their layout.
use Prim.Native.Nat.{◌≤◌}
use mathlib.Core.Path.{◌≡◌, refl, ◌∙◌, ap}
use mathlib.Core.Bool.{true}
use mathlib.Core.List.{List, [], ◌++◌}
use native.Mathlib.Omega.{arith}
use lib.IntN.{ℤ}
use lib.ListN.{length, drop}
use Rattle.receiver.specs.declared.Settings.{Settings}
use Rattle.numbers.specs.Numbers.{laid}
use Rattle.numbers.specs.Layout.{whole, signed, ◌then◌}
use Rattle.numbers.proofs.Laying.{laid-is}
use Rattle.numbers.proofs.Layouts.{LawfulLayout, lawful-whole, lawful-signed, lawful-shaped, ◌⊗◌}
use Rattle.numbers.proofs.Values.{numbers-back, numbers-many}
use Rattle.receiver_numbers.specs.Numbers.{port_layout, settings_layout, setting_numbers, settings_at}

lawful-port : LawfulLayout port_layout
lawful-port =
    lawful-shaped (λ v. record { rate = v.0; protocol = v.1.0; mask = v.1.1 }) (λ p. (p.rate, (p.protocol, p.mask)))
    (whole then whole then whole) (λ p. refl) (lawful-whole ⊗ lawful-whole ⊗ lawful-whole)

pub lawful-settings : LawfulLayout settings_layout
unfolding settings_layout
lawful-settings = lawful-shaped (λ v. record {
  first = v.0;
  second = v.1.0;
  datum = v.1.1.0;
  zone = v.1.1.1.0;
  gps = v.1.1.1.1.0;
  glonass = v.1.1.1.1.1.0;
  code = v.1.1.1.1.1.1;
}) (λ s. (s.first, (s.second, (s.datum, (s.zone, (s.gps, (s.glonass, s.code)))))))
    (port_layout then port_layout then whole then signed then whole then whole then whole) (λ s. refl)
    (lawful-port ⊗ lawful-port ⊗ lawful-whole ⊗ lawful-signed ⊗ lawful-whole ⊗ lawful-whole ⊗ lawful-whole)

module _ (s : Settings) (held : settings_layout.held s ≡ true) where
  pub back : (rest : List ℤ) → settings_at (setting_numbers s ++ rest) ≡ s
  back rest = numbers-back lawful-settings [] s rest held

  pub laid-back : (out : List ℤ) → 11 ≤ length out → settings_at (laid (setting_numbers s) out) ≡ s
  unfolding settings_layout
  laid-back out h = ap settings_at (laid-is (setting_numbers s) out (omega (arith, numbers-many lawful-settings s, h))) ∙ back (drop 11 out)
