-- The settings as eleven numbers: rate, protocol and mask of port 0, the same of port 1, datum, zone, GPS mask, GLONASS mask and self-test
-- code. Every value of 32 bits is a GPS mask, so a number that they do not hold says no settings.
use Rattle.std.specs.Prelude.{Bool, ◌&&◌, List, [], leb, ℤ, length}
use Rattle.receiver.specs.declared.Port.{Port}
use Rattle.receiver.specs.declared.Settings.{Settings}
use Rattle.numbers.specs.Numbers.{is_whole}
use Rattle.numbers.specs.Layout.{Layout, number_at, whole, signed, ◌then◌, shaped}

abbrev pub port_layout : Layout Port
port_layout =
    shaped (λ v. record { rate = v.0; protocol = v.1.0; mask = v.1.1 }) (λ p. (p.rate, (p.protocol, p.mask)))
    (whole then whole then whole)

unfoldable pub settings_layout : Layout Settings
settings_layout =
    shaped
    (λ v. record {
      first = v.0;
      second = v.1.0;
      datum = v.1.1.0;
      zone = v.1.1.1.0;
      gps = v.1.1.1.1.0;
      glonass = v.1.1.1.1.1.0;
      code = v.1.1.1.1.1.1;
    })
    (λ s. (s.first, (s.second, (s.datum, (s.zone, (s.gps, (s.glonass, s.code)))))))
    (port_layout then port_layout then whole then signed then whole then whole then whole)

abbrev pub setting_numbers : Settings → List ℤ
setting_numbers s = settings_layout.numbers s []

-- The settings that numbers say; one that is not there is taken as 0. They say settings where there are eleven and the GPS mask fits.
abbrev pub settings_at : List ℤ → Settings
settings_at n = settings_layout.at n 0

unfoldable pub said : List ℤ → Bool
said n = leb 11 (length n) && is_whole (number_at n 8)
