-- What each form reads of a field that stands in a body by its ends: one value, whatever reads it.
use Prim.Native.Nat.{◌+◌, min, ℕ}
use mathlib.Core.List.{List}
use mathlib.Core.Bool.{Bool}
use Rattle.form_position.specs.Angle.{position_form, variation_form}
use Rattle.form.specs.Units.{empty_wrong, unit_wrong}
use Rattle.form_number.specs.Fixed.{exact_form, fixed_form}
use Rattle.form_letter.specs.Letters.{letter_form}
use Rattle.form_number.specs.Number.{below_form, height_form, number_form}
use Rattle.form_date.specs.Dates.{date_six, date_three}
use Rattle.form_time.specs.Time.{time_form}
use Rattle.form_date.specs.Zone.{zone_four_form, zone_two}
use Rattle.form_mask.specs.Masks.{port_mask_form, satellites_form, whole_form}
use Rattle.form_mask.specs.Rates.{code_form, rate_form}
use Rattle.fields.specs.Places.{field_in}
use Rattle.claims.proofs.Determined.{One, one}

pub time-in : (s : List ℕ) (p : List ℕ) (k : ℕ) → One (time_form (field_in p k s))
time-in s p k = one

pub number_in : (s : List ℕ) (p : List ℕ) (k : ℕ) → One (number_form (field_in p k s))
number_in s p k = one

pub below_in : (s : List ℕ) (p : List ℕ) (k : ℕ) (limit : ℕ) → One (below_form limit (field_in p k s))
below_in s p k limit = one

pub height-in : (s : List ℕ) (p : List ℕ) (k : ℕ) → One (height_form (field_in p k s))
height-in s p k = one

pub fixed_in : (s : List ℕ) (p : List ℕ) (k : ℕ) (w : ℕ) (lo : ℕ) (hi : ℕ) → One (fixed_form w lo hi (field_in p k s))
fixed_in s p k w lo hi = one

pub exact-in : (s : List ℕ) (p : List ℕ) (k : ℕ) (w : ℕ) (lo : ℕ) (hi : ℕ) → One (exact_form w lo hi (field_in p k s))
exact-in s p k w lo hi = one

pub position_in : (s : List ℕ) (p : List ℕ) (k1 : ℕ) (k2 : ℕ) (k3 : ℕ) (k4 : ℕ)
    → One (position_form (field_in p k1 s) (field_in p k2 s) (field_in p k3 s) (field_in p k4 s))
position_in s p k1 k2 k3 k4 = one

pub variation-in : (s : List ℕ) (p : List ℕ) (k1 : ℕ) (k2 : ℕ) → One (variation_form (field_in p k1 s) (field_in p k2 s))
variation-in s p k1 k2 = one

pub six-in : (s : List ℕ) (p : List ℕ) (k : ℕ) → One (date_six (field_in p k s))
six-in s p k = one

pub three-in : (s : List ℕ) (p : List ℕ) (k1 : ℕ) (k2 : ℕ) (k3 : ℕ) → One (date_three (field_in p k1 s) (field_in p k2 s) (field_in p k3 s))
three-in s p k1 k2 k3 = one

pub zone-in : (s : List ℕ) (p : List ℕ) (k1 : ℕ) (k2 : ℕ) → One (zone_two (field_in p k1 s) (field_in p k2 s))
zone-in s p k1 k2 = one

pub four-in : (s : List ℕ) (p : List ℕ) (k : ℕ) → One (zone_four_form (field_in p k s))
four-in s p k = one

pub satellites-in : (s : List ℕ) (p : List ℕ) (k : ℕ) (width : ℕ) → One (satellites_form width (field_in p k s))
satellites-in s p k width = one

pub whole_in : (s : List ℕ) (p : List ℕ) (k : ℕ) (width : ℕ) → One (whole_form width (field_in p k s))
whole_in s p k width = one

pub port-mask-in : (s : List ℕ) (p : List ℕ) (k : ℕ) → One (port_mask_form (field_in p k s))
port-mask-in s p k = one

pub rate-in : (s : List ℕ) (p : List ℕ) (k : ℕ) → One (rate_form (field_in p k s))
rate-in s p k = one

pub code_in : (s : List ℕ) (p : List ℕ) (k : ℕ) → One (code_form (field_in p k s))
code_in s p k = one

pub letter-in : (s : List ℕ) (p : List ℕ) (k : ℕ) (set : List ℕ) → One (letter_form set (field_in p k s))
letter-in s p k set = one

pub unit-in : (s : List ℕ) (p : List ℕ) (k : ℕ) (there : Bool) (b : ℕ) → One (unit_wrong (field_in p k s) there b)
unit-in s p k there b = one

pub empty-in : (s : List ℕ) (p : List ℕ) (k : ℕ) → One (empty_wrong (field_in p k s))
empty-in s p k = one

-- Two counts together, or the largest number where they pass it.
pub walk-sum : (a b : ℕ) → One (min (a + b) 18446744073709551615)
walk-sum a b = one
