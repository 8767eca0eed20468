-- The forms of masks, rates and codes: what is read, what is in range, what is written, and at most how many bytes.
use Rattle.std.specs.Prelude.{◌+◌, ℕ}
use Rattle.digits.specs.Plain.{plain_text}
use Rattle.form.specs.Forms.{single}
use Rattle.form.specs.Row.{Form}
use Rattle.form.specs.Values.{kept_of, maybe_text, outside, range_wrong}
use Rattle.form.specs.declared.Maybe.{Maybe}
use Rattle.form.specs.declared.got.Got.{Got}
use Rattle.form_mask.specs.Masks.{port_mask_form, port_wrong, print_hex, satellites_form, whole_form}
use Rattle.form_mask.specs.Rates.{code_form, code_most, rate_form, rate_least, rate_most}
use Rattle.numbers.specs.Layout.{whole}
use Rattle.form.specs.Numbers.{maybe_layout}

-- A port's rate, and its mask; each may be empty.
abbrev pub rate : Form Got Maybe
rate = single 7 maybe_layout rate_form (λ g. kept_of g) (λ m. range_wrong rate_least rate_most m.there m.value) (maybe_text plain_text)

abbrev pub port_mask : Form Got Maybe
port_mask = single 5 maybe_layout port_mask_form (λ g. kept_of g) (λ m. port_wrong m.there m.value) (maybe_text (print_hex 4))

-- A mask of satellites, read in up to w digits or as `-1`, written in w, that may be empty; and one of w digits that may not.
abbrev pub satellite_mask : ℕ → ℕ → Form Got Maybe
satellite_mask w most =
    single (w + 1) maybe_layout (satellites_form w) (λ g. kept_of g) (λ m. range_wrong 0 most m.there m.value) (maybe_text (print_hex w))

abbrev pub whole_mask : ℕ → ℕ → Form Got ℕ
whole_mask w most = single (w + 1) whole (whole_form w) (λ g. g.value) (λ v. outside 0 most v) (λ v. print_hex w v)

-- A self-test code, never empty; the digit 0; and a field that stays empty.
abbrev pub code : Form Got ℕ
code = single 4 whole code_form (λ g. g.value) (λ v. outside 0 code_most v) (λ v. plain_text v)
