-- GSV (3, 7, 11, 15 or 19): lines 1-9, this line 1-9, satellites 00-99; then up to four of: number 01-99, elevation 00-90, azimuth
-- 000-359, signal 00-99. Only elevation, azimuth and signal may be empty; widths are fixed. Empty signal and 00 stay different. The row is
-- chosen by how many entries there are; one that is not used has no field.
use Rattle.std.specs.Prelude.{◌+◌, ℕ, Bool, cond, [], ◌++◌, ◌∷◌, List, eqb, ltb, get_or, ℤ}
use Rattle.digits.specs.Pick.{pick}
use Rattle.address.specs.declared.Talker.{Talker}
use Rattle.form.specs.Kind.{answer_by}
use Rattle.form.specs.Row.{◌▷◌, Form, one, only_if, Row}
use Rattle.form.specs.Values.{kept_of}
use Rattle.form.specs.declared.Maybe.{Maybe}
use Rattle.form.specs.declared.got.Got.{Got}
use Rattle.form_number.specs.Fixed.{satellite_least, satellite_most}
use Rattle.form_number.specs.Forms.{exact, fixed}
use Rattle.kind_gsv.specs.Blank.{blank_entry, is_blank}
use Rattle.kind_gsv.specs.declared.Entry.{Entry}
use Rattle.kind_gsv.specs.declared.Gsv.{Gsv}
use Rattle.kind_gsv.specs.declared.GotEntry.{GotEntry}
use Rattle.numbers.specs.Layout.{◌then◌, Layout, several, shaped, standard, standard_numbers, whole}
use Rattle.numbers.specs.Told.{Answer, gives, refuses}
use Rattle.form.specs.Numbers.{maybe_layout}

-- The forms of an entry.
abbrev pub satellite_number : Form Got ℕ
satellite_number = exact 2 satellite_least satellite_most

abbrev pub elevation : Form Got Maybe
elevation = fixed 2 0 90

abbrev pub azimuth : Form Got Maybe
azimuth = fixed 3 0 359

abbrev pub signal : Form Got Maybe
signal = fixed 2 0 99

-- The first of four fields that is wrong, or 0.
unfoldable pub first_of : ℕ → ℕ → ℕ → ℕ → ℕ
first_of a b c d = cond (eqb a 0) (cond (eqb b 0) (cond (eqb c 0) (cond (eqb d 0) 0 4) 3) 2) 1

abbrev pub no_entry : ℕ → GotEntry
no_entry w = record { wrong = w; entry = blank_entry }

unfoldable pub entry_at : ℕ → Got → Got → Got → Got → GotEntry
entry_at w n e a s =
    pick (eqb w 0)
    (record { wrong = 0; entry = record { number = n.value; elevation = kept_of e; azimuth = kept_of a; signal = kept_of s } })
    (no_entry w)

unfoldable pub entry_from : Got → Got → Got → Got → GotEntry
entry_from n e a s = entry_at (first_of n.wrong e.wrong a.wrong s.wrong) n e a s

-- A satellite, of a GSV and of a sky, in numbers; and as a form.
abbrev pub entry_layout : Layout Entry
entry_layout =
    shaped (λ v. record { number = v.0; elevation = v.1.0; azimuth = v.1.1.0; signal = v.1.1.1 })
    (λ e. (e.number, (e.elevation, (e.azimuth, e.signal))))
    (whole then maybe_layout then maybe_layout then maybe_layout)

abbrev pub entry : Form GotEntry Entry
entry =
    record {
      width = 4;
      most = 13;
      got = λ field.
          entry_from (satellite_number.got field) (elevation.got (λ k. field (1 + k))) (azimuth.got (λ k. field (2 + k)))
          (signal.got (λ k. field (3 + k)));
      wrong = λ g. g.wrong;
      value = λ g. g.entry;
      fault = λ e.
          first_of (satellite_number.fault e.number) (elevation.fault e.elevation) (azimuth.fault e.azimuth)
          (signal.fault e.signal);
      text = λ e.
          satellite_number.text e.number
          ++ (elevation.text e.elevation ++ (azimuth.text e.azimuth ++ signal.text e.signal));
      layout = entry_layout;
    }

-- Entry k, counted from 0, of so many; one that is not used is blank.
abbrev pub entry_if : Bool → Form GotEntry Entry
entry_if on = only_if on (no_entry 0) (λ e. cond (is_blank e) 0 1) entry

abbrev pub entry_row : ℕ → ℕ → Row GotEntry Entry
entry_row count k = one (entry_if (ltb k count))

abbrev pub Readings : Type 0
Readings = Got × (Got × (Got × (GotEntry × (GotEntry × (GotEntry × GotEntry)))))

abbrev pub Values : Type 0
Values = ℕ × (ℕ × (ℕ × (Entry × (Entry × (Entry × Entry)))))

-- The number of lines, this line, the number of satellites, and the entries.
abbrev pub line_number : Form Got ℕ
line_number = exact 1 1 9

abbrev pub satellite_total : Form Got ℕ
satellite_total = exact 2 0 99

unfoldable pub gsv_row : ℕ → Row Readings Values
gsv_row count = one line_number ▷ one line_number ▷ one satellite_total ▷ entry_row count 0 ▷ entry_row count 1 ▷ entry_row count 2 ▷ entry_row
    count 3

abbrev pub gsv_made : ℕ → Values → Gsv
gsv_made count v =
    record {
      lines = v.0;
      line = v.1.0;
      satellites = v.1.1.0;
      count = count;
      entries = v.1.1.1.0 ∷ v.1.1.1.1.0 ∷ v.1.1.1.1.1.0 ∷ v.1.1.1.1.1.1 ∷ [];
    }

-- The record as numbers, as docs/LAYOUT.md lays them out, in the order of its fields; and back.
unfoldable pub gsv_layout : Layout Gsv
gsv_layout =
    shaped
    (λ v. record {
      lines = v.0;
      line = v.1.0;
      satellites = v.1.1.0;
      count = v.1.1.1.0;
      entries = v.1.1.1.1;
    })
    (λ r. (r.lines, (r.line, (r.satellites, (r.count, r.entries)))))
    (whole then whole then whole then whole then several 4 blank_entry entry_layout)

abbrev pub gsv_numbers : Talker → Gsv → List ℤ
gsv_numbers = standard_numbers gsv_layout

abbrev pub gsv_at : List ℤ → Gsv
gsv_at n = ((standard gsv_layout).at n 0).1

-- How many entries a line of n fields has; 5 where no line has so many fields.
unfoldable pub entries_of : ℕ → ℕ
entries_of n = cond (eqb n 3) 0 (cond (eqb n 7) 1 (cond (eqb n 11) 2 (cond (eqb n 15) 3 (cond (eqb n 19) 4 5))))

-- With that many entries.
unfoldable pub gsv_with : {A : Type 0} → (ℕ → ℕ → A) → (Gsv → A) → ℕ → (ℕ → List ℕ) → A
gsv_with refuse make count field =
    pick (ltb 4 count) (refuse 4 0) (answer_by refuse (gsv_row count) (λ v. make (gsv_made count v)) ((gsv_row count).got field 0))

abbrev pub gsv_told : List ℤ → Talker → ℕ → (ℕ → List ℕ) → Answer
gsv_told out t n field = gsv_with (refuses out) (λ r. gives out 4 (gsv_numbers t r)) (entries_of n) field

-- An entry that is used or not, of four fields; and what entries come to, each in its place among four, since one that is not used is never
-- wrong.
unfoldable pub entry_form : Bool → ℕ → ℕ → ℕ → ℕ → (ℕ → List ℕ) → GotEntry
entry_form on n e a s field = (entry_if on).got (λ k. field (get_or (0 ∷ n ∷ e ∷ a ∷ s ∷ []) k 0))

unfoldable pub gsv_from : List ℤ → Talker → ℕ → Readings → Answer
gsv_from out t count g = answer_by (refuses out) (gsv_row 4) (λ v. gives out 4 (gsv_numbers t (gsv_made count v))) g
