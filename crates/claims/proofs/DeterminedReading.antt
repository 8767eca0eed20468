-- The field forms, the kinds of field, the readers and the line reader: each contract is an equation with a definition, so any two results
-- that it permits are equal.
use Prim.Native.Nat.{ℕ}
use mathlib.Core.Path.{◌≡◌}
use mathlib.Core.List.{List}
use mathlib.Core.Bool.{Bool}
use Rattle.form_position.specs.Angle.{position_form, variation_form}
use Rattle.form.specs.Got.{got_of, maybe_int_of, maybe_of, within_of}
use Rattle.form_number.specs.Fixed.{exact_form, fixed_form, fixed_of}
use Rattle.std.specs.Prelude.{Option}
use Rattle.form.specs.Units.{empty_wrong, unit_wrong}
use Rattle.form_letter.specs.Letters.{letter_form, letter_of}
use Rattle.form_number.specs.Number.{below_form, below_of, height_form, height_of, number_form, number_of}
use Rattle.form_date.specs.Calendar.{is_date}
use Rattle.form_date.specs.Dates.{date_six, date_three}
use Rattle.form_time.specs.Time.{time_form, time_of}
use Rattle.form_date.specs.Zone.{zone_four, zone_four_form, zone_two}
use Rattle.form_mask.specs.Masks.{hex_digits_of, is_port_mask, port_mask_form, satellites_form, whole_form}
use Rattle.form_mask.specs.Rates.{code_form, rate_form}
use Rattle.fields.specs.declared.Fields.{Fields}
use Rattle.fields.specs.Parts.{parts_of}
use Rattle.address.specs.declared.Talker.{Talker}
use lib.IntN.{ℤ}
use Rattle.numbers.specs.Told.{Answer}
use Rattle.kind_gga.specs.Row.{gga_told}
use Rattle.kind_gll.specs.Row.{gll_told}
use Rattle.kind_rmc.specs.Row.{rmc_told}
use Rattle.kind_vtg.specs.Row.{vtg_told}
use Rattle.kind_zda.specs.Row.{zda_told}
use Rattle.kind_gsa.specs.Row.{gsa_told}
use Rattle.kind_gsv.specs.Row.{gsv_told}
use Rattle.kind_pir_code.specs.Reply.{pirea_told}
use Rattle.kind_pir_code.specs.Command.{pirer_told}
use Rattle.kind_pir_port.specs.Reply.{pirpa_told}
use Rattle.kind_pir_port.specs.Command.{pirpr_told}
use Rattle.kind_pir_masks.specs.Reply.{pirsa_told}
use Rattle.kind_pir_masks.specs.Command.{pirsr_told}
use Rattle.kind_pir_datum.specs.Reply.{pirta_told}
use Rattle.kind_pir_datum.specs.Command.{pirtr_told}
use Rattle.sentence.specs.Lines.{read_line, refusal_of}
use Rattle.form_date.specs.Values.{dated_of, zoned_if, zoned_of}
use Rattle.form.specs.Values.{kept_if, kept_of, needed_int, needed_wrong}
use Rattle.form_number.specs.Values.{kmh_of, knots_of, number_of as kept_number, signed_of}
use Rattle.form_position.specs.Values.{placed_of}
use Rattle.kind_gsv.specs.Blank.{blank_entry, blank_gsv}
use Rattle.form.specs.Wrong.{near_of}
use Rattle.form.specs.declared.got.Got.{Got}
use Rattle.form.specs.declared.got.GotInt.{GotInt}
use Rattle.form_position.specs.declared.Position.{Position}
use Rattle.form_date.specs.declared.dates.GotDate.{GotDate}
use Rattle.host.specs.Answer.{single_line}
use Rattle.claims.proofs.Determined.{One, one}

-- forms
pub got-within : (n : Option ℕ) (lo : ℕ) (hi : ℕ) → One (within_of lo hi n)
got-within n lo hi = one

pub angle-position : (lat ns lon : List ℕ) (ew : List ℕ) → One (position_form lat ns lon ew)
angle-position lat ns lon ew = one

pub angle-variation : (f : List ℕ) (u : List ℕ) → One (variation_form f u)
angle-variation f u = one

pub fixed : (f : List ℕ) (w : ℕ) (lo : ℕ) (hi : ℕ) → One (maybe_of f (fixed_of w lo hi f))
fixed f w lo hi = one

pub fixed-exact : (f : List ℕ) (w : ℕ) (lo : ℕ) (hi : ℕ) → One (got_of (fixed_of w lo hi f))
fixed-exact f w lo hi = one

pub got-told : (n : Option ℕ) → One (got_of n)
got-told n = one

pub got-maybe : (f : List ℕ) (n : Option ℕ) → One (maybe_of f n)
got-maybe f n = one

pub letters-letter : (f : List ℕ) (set : List ℕ) → One (got_of (letter_of set f))
letters-letter f set = one

pub letters-unit : (u : List ℕ) (there : Bool) (b : ℕ) → One (unit_wrong u there b)
letters-unit u there b = one

pub letters-empty : (f : List ℕ) → One (empty_wrong f)
letters-empty f = one

pub number : (f : List ℕ) → One (maybe_of f (number_of f))
number f = one

pub number-below : (f : List ℕ) (limit : ℕ) → One (maybe_of f (below_of limit f))
number-below f limit = one

pub number-height : (f : List ℕ) → One (maybe_int_of f (height_of f))
number-height f = one

-- calendar
pub date-is-date : (day : ℕ) (month : ℕ) (year : ℕ) → One (is_date day month year)
date-is-date day month year = one

pub date-six : (f : List ℕ) → One (date_six f)
date-six f = one

pub date-three : (day month year : List ℕ) → One (date_three day month year)
date-three day month year = one

pub time : (f : List ℕ) → One (maybe_of f (time_of f))
time f = one

pub zone-two : (hours : List ℕ) (minutes : List ℕ) → One (zone_two hours minutes)
zone-two hours minutes = one

pub zone-four : (f : List ℕ) → One (maybe_int_of f (zone_four f))
zone-four f = one

-- masks
pub mask-hex-digits : (f : List ℕ) (lo : ℕ) (hi : ℕ) → One (hex_digits_of lo hi f)
mask-hex-digits f lo hi = one

pub mask-satellites : (f : List ℕ) (width : ℕ) → One (satellites_form width f)
mask-satellites f width = one

pub mask-whole : (f : List ℕ) (width : ℕ) → One (whole_form width f)
mask-whole f width = one

pub mask-is-port-mask : (v : ℕ) → One (is_port_mask v)
mask-is-port-mask v = one

pub mask-port-mask : (f : List ℕ) → One (port_mask_form f)
mask-port-mask f = one

pub mask-rate : (f : List ℕ) → One (rate_form f)
mask-rate f = one

pub mask-code : (f : List ℕ) → One (code_form f)
mask-code f = one

-- records
pub kept : (g : Got) → One (kept_of g)
kept g = one

pub kept-number : (g : Got) → One (kept_number g)
kept-number g = one

pub kept-knots : (g : Got) → One (knots_of g)
kept-knots g = one

pub kept-kmh : (g : Got) → One (kmh_of g)
kept-kmh g = one

pub kept-signed : (g : GotInt) → One (signed_of g)
kept-signed g = one

pub kept-placed : (p : Position) → One (placed_of p)
kept-placed p = one

pub kept-dated : (d : GotDate) → One (dated_of d)
kept-dated d = one

pub kept-zoned : (g : GotInt) → One (zoned_of g)
kept-zoned g = one

pub kept_near : (n wrong rest : ℕ) → One (near_of n wrong rest)
kept_near n wrong rest = one

pub kept_if_lem : (there : Bool) (g : Got) → One (kept_if there g)
kept_if_lem there g = one

pub kept-zoned-if : (there : Bool) (g : GotInt) → One (zoned_if there g)
kept-zoned-if there g = one

pub kept-needed : (needed : Bool) (g : Got) → One (needed_wrong needed g)
kept-needed needed g = one

pub kept-needed-int : (needed : Bool) (g : GotInt) → One (needed_int needed g)
kept-needed-int needed g = one

pub blank-entry : One blank_entry
blank-entry = one

pub blank-gsv : One blank_gsv
blank-gsv = one

-- kinds
-- A reader of a kind tells and leaves the numbers as one definition says.
abbrev OneAnswer : Answer → Type 0
OneAnswer a = One a.0 × One a.1

answer : (a : Answer) → OneAnswer a
answer a = (one, one)

pub read-gga : (out : List ℤ) (t : Talker) (f : Fields) → OneAnswer (gga_told out t f.count (parts_of f))
read-gga out t f = answer _

pub read-gll : (out : List ℤ) (t : Talker) (f : Fields) → OneAnswer (gll_told out t f.count (parts_of f))
read-gll out t f = answer _

pub read-rmc : (out : List ℤ) (t : Talker) (f : Fields) → OneAnswer (rmc_told out t f.count (parts_of f))
read-rmc out t f = answer _

pub read-vtg : (out : List ℤ) (t : Talker) (f : Fields) → OneAnswer (vtg_told out t f.count (parts_of f))
read-vtg out t f = answer _

pub read-zda : (out : List ℤ) (t : Talker) (f : Fields) → OneAnswer (zda_told out t f.count (parts_of f))
read-zda out t f = answer _

pub read-gsa : (out : List ℤ) (t : Talker) (f : Fields) → OneAnswer (gsa_told out t f.count (parts_of f))
read-gsa out t f = answer _

pub read-gsv : (out : List ℤ) (t : Talker) (f : Fields) → OneAnswer (gsv_told out t f.count (parts_of f))
read-gsv out t f = answer _

pub read-pirea : (out : List ℤ) (f : Fields) → OneAnswer (pirea_told out f.count (parts_of f))
read-pirea out f = answer _

pub read-pirer : (out : List ℤ) (f : Fields) → OneAnswer (pirer_told out f.count (parts_of f))
read-pirer out f = answer _

pub read-pirpa : (out : List ℤ) (f : Fields) → OneAnswer (pirpa_told out f.count (parts_of f))
read-pirpa out f = answer _

pub read-pirpr : (out : List ℤ) (f : Fields) → OneAnswer (pirpr_told out f.count (parts_of f))
read-pirpr out f = answer _

pub read-pirsa : (out : List ℤ) (f : Fields) → OneAnswer (pirsa_told out f.count (parts_of f))
read-pirsa out f = answer _

pub read-pirsr : (out : List ℤ) (f : Fields) → OneAnswer (pirsr_told out f.count (parts_of f))
read-pirsr out f = answer _

pub read-pirta : (out : List ℤ) (f : Fields) → OneAnswer (pirta_told out f.count (parts_of f))
read-pirta out f = answer _

pub read-pirtr : (out : List ℤ) (f : Fields) → OneAnswer (pirtr_told out f.count (parts_of f))
read-pirtr out f = answer _

-- host
pub host-refusal : (line : List ℕ)
    → One (refusal_of (read_line line)).no × One (single_line (refusal_of (read_line line)).no) × One (refusal_of (read_line line)).field
host-refusal line = (one, one, one)
