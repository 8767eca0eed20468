-- The settings by cases, as the code meets them.
use Prim.Native.Nat.{ℕ, zero, suc}
use mathlib.Core.Path.{◌≡◌, refl}
use mathlib.Core.Bool.{true, false}
use lib.Count.{ones}
use Rattle.receiver.specs.declared.Port.{Port}
use Rattle.receiver.specs.declared.Settings.{Settings}
use Rattle.receiver.specs.Settings.{port_of, with_port, settings_good, counts_of}

pub second_is : (s : Settings) (n : ℕ) → (n ≡ 0 → ⊥) → s.second ≡ port_of s n
second_is s zero h = absurd (h refl)
second_is s (suc n) h = refl

pub with_second : (s : Settings) (n : ℕ) (p : Port) → (n ≡ 0 → ⊥)
    → record { first = s.first; second = p; datum = s.datum; zone = s.zone; gps = s.gps; glonass = s.glonass; code = s.code } ≡
    with_port s n p
with_second s zero p h = absurd (h refl)
with_second s (suc n) p h = refl

pub counts-wrong : (s : Settings) → settings_good s ≡ false → record { no = 5; line = 0; field = 0; gps = 0; glonass = 0 } ≡ counts_of s
unfolding counts_of
counts-wrong s e = rw e

pub counts-right : (s : Settings) → settings_good s ≡ true
    → record { no = 0; line = 0; field = 0; gps = ones s.gps; glonass = ones s.glonass } ≡ counts_of s
unfolding counts_of
counts-right s e = rw e
