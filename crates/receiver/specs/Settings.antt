-- Settings: two ports (rate, protocol, mask), datum, zone, GPS mask, GLONASS mask, self-test code 0 to 255. At start: 4800, protocol 4,
-- mask 007F on both; datum 0; zone 0; all satellites; code 0.
use Rattle.std.specs.Prelude.{suc, zero, ℕ, ◌&&◌, Bool, true, eqb, pos}
use Rattle.std.specs.Int.Count.{ones}
use Rattle.form_mask.specs.Rates.{code_most, rate_least, rate_most}
use Rattle.kind_pir_port.specs.Command.{protocol_most}
use Rattle.kind_pir_datum.specs.Command.{datum_most}
use Rattle.form_date.specs.Zone.{zone_most}
use Rattle.kind_pir_masks.specs.Command.{glonass_most, gps_most}
use Rattle.form.specs.Values.{outside, signed_wrong}
use Rattle.form_mask.specs.Masks.{port_wrong}
use Rattle.digits.specs.Pick.{pick}
use Rattle.receiver.specs.declared.Counts.{Counts}
use Rattle.receiver.specs.declared.Port.{Port}
use Rattle.receiver.specs.declared.Settings.{Settings}

abbrev pub port_at_start : Port
port_at_start = record { rate = 4800; protocol = 4; mask = 127 }

abbrev pub at_start : Settings
at_start =
    record {
      first = port_at_start;
      second = port_at_start;
      datum = 0;
      zone = pos 0;
      gps = gps_most;
      glonass = glonass_most;
      code = 0;
    }

-- Port 0 is the first, port 1 the second. No other is asked for: an arrival port that is neither is refused with 5 before, and a command
-- can name no other.
abbrev pub port_of : Settings → ℕ → Port
port_of s zero = s.first
port_of s (suc n) = s.second

abbrev pub with_port : Settings → ℕ → Port → Settings
with_port s zero p = record {
  first = p;
  second = s.second;
  datum = s.datum;
  zone = s.zone;
  gps = s.gps;
  glonass = s.glonass;
  code = s.code;
}
with_port s
    (suc n) p = record {
      first = s.first;
      second = p;
      datum = s.datum;
      zone = s.zone;
      gps = s.gps;
      glonass = s.glonass;
      code = s.code;
    }

-- A setting in its range.
unfoldable pub port_good : Port → Bool
port_good p = eqb (outside rate_least rate_most p.rate) 0
    && (eqb (outside 0 protocol_most p.protocol) 0 && eqb (port_wrong true p.mask) 0)

unfoldable pub settings_good : Settings → Bool
settings_good s =
    port_good s.first
    && (port_good s.second
    && (eqb (outside 0 datum_most s.datum) 0
    && (eqb (signed_wrong zone_most true s.zone) 0
    && (eqb (outside 0 gps_most s.gps) 0
    && (eqb (outside 0 glonass_most s.glonass) 0
    && eqb (outside 0 code_most s.code) 0)))))

-- The number of satellites allowed by each mask is its ones; a wrong setting is 5.
unfoldable pub counts_of : Settings → Counts
counts_of s =
    pick (settings_good s)
    (record { no = 0; line = 0; field = 0; gps = ones s.gps; glonass = ones s.glonass })
    (record { no = 5; line = 0; field = 0; gps = 0; glonass = 0 })
