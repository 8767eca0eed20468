-- The forms of positions and variations: what is read, what is in range, what is written, and at most how many bytes.
use Rattle.std.specs.Prelude.{◌-◌, [], ◌∷◌}
use Rattle.form.specs.Row.{Form}
use Rattle.form.specs.Values.{signed_wrong}
use Rattle.form.specs.declared.got.GotInt.{GotInt}
use Rattle.form_number.specs.Number.{half_circle}
use Rattle.form_number.specs.Values.{signed_of}
use Rattle.form_number.specs.declared.Signed.{Signed}
use Rattle.form_position.specs.Angle.{position_form, variation_form}
use Rattle.form_position.specs.Values.{ew_field, lat_field, lon_field, ns_field, placed_of, place_wrong, variation_field, variation_side}
use Rattle.form_position.specs.declared.Place.{Place}
use Rattle.form_position.specs.declared.Position.{Position}
use Rattle.form_number.specs.Numbers.{signed_layout}
use Rattle.form_position.specs.Numbers.{place_layout}

-- Latitude, N or S, longitude, E or W: all four or none.
abbrev pub place : Form Position Place
place =
    record {
      width = 4;
      most = 25;
      got = λ field. position_form (field 1) (field 2) (field 3) (field 4);
      wrong = λ g. g.wrong;
      value = λ g. placed_of g;
      fault = λ p. place_wrong p;
      text = λ p. lat_field p ∷ ns_field p ∷ lon_field p ∷ ew_field p ∷ [];
      layout = place_layout;
    }

-- A variation, below 180, and E or W: both or none.
abbrev pub variation : Form GotInt Signed
variation =
    record {
      width = 2;
      most = 10;
      got = λ field. variation_form (field 1) (field 2);
      wrong = λ g. g.wrong;
      value = λ g. signed_of g;
      fault = λ z. signed_wrong (half_circle - 1) z.there z.value;
      text = λ z. variation_field z ∷ variation_side z ∷ [];
      layout = signed_layout;
    }
