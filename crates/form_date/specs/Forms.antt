-- The forms of dates and zones: what is read, what is in range, what is written, and at most how many bytes.
use Rattle.std.specs.Prelude.{Bool, true, [], ◌∷◌, ℤ}
use Rattle.form.specs.Row.{Form}
use Rattle.form.specs.Values.{alike_wrong, if_there, needed_int, signed_wrong}
use Rattle.form.specs.declared.got.GotInt.{GotInt}
use Rattle.form_date.specs.Dates.{date_six, date_three}
use Rattle.form_date.specs.Values.{dated_of, day_field, hours_field, minutes_field, month_field, six_field, six_wrong, three_wrong, year_field}
use Rattle.form_date.specs.Values.{zoned_if, zoned_of}
use Rattle.form_date.specs.Zone.{four_text, zone_four_form, zone_most, zone_two}
use Rattle.form_date.specs.declared.Date.{Date}
use Rattle.form_date.specs.declared.Zone.{Zone}
use Rattle.form_date.specs.declared.dates.GotDate.{GotDate}
use Rattle.numbers.specs.Layout.{signed}
use Rattle.form_date.specs.Numbers.{date_layout, zone_layout}

-- A date in one field, which may be empty; and in three, all or none.
abbrev pub ddmmyy : Form GotDate Date
ddmmyy =
    record {
      width = 1;
      most = 7;
      got = λ field. date_six (field 1);
      wrong = λ g. g.wrong;
      value = λ g. dated_of g;
      fault = λ d. six_wrong d;
      text = λ d. six_field d ∷ [];
      layout = date_layout;
    }

abbrev pub day_month_year : Form GotDate Date
day_month_year =
    record {
      width = 3;
      most = 11;
      got = λ field. date_three (field 1) (field 2) (field 3);
      wrong = λ g. g.wrong;
      value = λ g. dated_of g;
      fault = λ d. three_wrong d;
      text = λ d. day_field d ∷ month_field d ∷ year_field d ∷ [];
      layout = date_layout;
    }

-- A zone in two fields, both or none.
abbrev pub hours_minutes : Form GotInt Zone
hours_minutes =
    record {
      width = 2;
      most = 7;
      got = λ field. zone_two (field 1) (field 2);
      wrong = λ g. g.wrong;
      value = λ g. zoned_of g;
      fault = λ z. signed_wrong zone_most z.there z.minutes;
      text = λ z. hours_field z ∷ minutes_field z ∷ [];
      layout = zone_layout;
    }

-- A zone in one field, that stands exactly where another value does, and that is never missing.
abbrev pub hhmm : Bool → Form GotInt Zone
hhmm key =
    record {
      width = 1;
      most = 6;
      got = λ field. zone_four_form (field 1);
      wrong = λ g. needed_int key g;
      value = λ g. zoned_if key g;
      fault = λ z. alike_wrong key z.there (signed_wrong zone_most z.there z.minutes);
      text = λ z. if_there z.there (four_text z.minutes) ∷ [];
      layout = zone_layout;
    }

abbrev pub filled_zone : Form GotInt ℤ
filled_zone =
    record {
      width = 1;
      most = 6;
      got = λ field. zone_four_form (field 1);
      wrong = λ g. needed_int true g;
      value = λ g. g.value;
      fault = λ z. signed_wrong zone_most true z;
      text = λ z. four_text z ∷ [];
      layout = signed;
    }
