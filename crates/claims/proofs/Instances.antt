-- Nothing here is vacuous: one computed list with a record of each of the fifteen kinds, all of its values there and different where they
-- can be. Each is written from numbers into 82 bytes, as the line beside it, and that line is read to the same kind and numbers; so every
-- `-back`, `read_again` and `write_again` have an instance. And the row P10 through the step and the counts of the exported functions.
use Prim.Native.Nat.{ℕ}
use Prim.Native.String.{String}
use mathlib.Core.Path.{◌∙◌, ◌≡◌, ap, refl}
use mathlib.Core.List.{[], ◌++◌, ◌∷◌, List, map}
use lib.Count.{ones, ones_in}
use lib.IntN.{neg_ℤ, pos, ℤ}
use lib.ListN.{drop, length, replicate}
use Rattle.digits.specs.Ascii.{ascii}
use Rattle.digits.specs.Decimal.{digits_from, digits_of, find_in, is_digit, print_fixed}
use Rattle.digits.specs.Hex.{hex_digit, hex_of, hex_value}
use Rattle.digits.specs.Pairs.{pair_at}
use Rattle.digits.specs.Plain.{fraction_text, number_text, plain_text, width_of}
use Rattle.digits.specs.Same.{same}
use Rattle.line.specs.Line.{body_byte, body_bytes, edge_form, end_form, end_gives, line_form, line_refusal, none_of, xor_from, xor_of}
use Rattle.address.specs.Address as A
use Rattle.fields.specs.Fields.{fields_of, join_fields, onto}
use Rattle.frame.specs.Written.{fault_at, left_of, refused, written_of, wrote}
use Rattle.frame.specs.declared.Written.{Written}
use Rattle.form.specs.Got.{maybe_int_of, maybe_of, within_of}
use Rattle.form.specs.Kind.{answer_by, fault_by, fields_for, read_by}
use Rattle.form.specs.Units.{empty_wrong, unit_wrong}
use Rattle.form.specs.Values.{alike_wrong, outside, range_wrong, signed_wrong}
use Rattle.form.specs.Wrong.{first_wrong, near_of}
use Rattle.form_letter.specs.Letters.{is_in, letter_of, letter_wrong}
use Rattle.form_number.specs.Fixed.{fixed_of}
use Rattle.form_number.specs.Number.{before, behind, below_of, height_of, number_of, thousandths}
use Rattle.form_time.specs.Time.{clock_of, is_time, time_of}
use Rattle.form_date.specs.Calendar.{days_in, is_date, leap_year}
use Rattle.form_date.specs.Dates.{date_at, date_six, date_three, full_year}
use Rattle.form_date.specs.Values.{six_wrong, three_wrong}
use Rattle.form_date.specs.Zone.{bare_of, minus, zone_at, zone_four, zone_of, zone_two}
use Rattle.form_mask.specs.Masks.{hex_digits_of, hex_from, is_port_mask, port_mask_form, port_mask_of, port_wrong, print_hex, satellites_form}
use Rattle.form_mask.specs.Masks.{satellites_of, whole_form}
use Rattle.form_mask.specs.Rates.{code_form, code_of, plain_of, rate_form, rate_of}
use Rattle.form_position.specs.Angle.{angle_of, both_of, joined_of, latitude_of, lettered_of, longitude_of, position_form, sided_of, variation_form}
use Rattle.form_position.specs.Values.{place_wrong}
use Rattle.numbers.specs.Layout.{maker_numbers, standard_numbers}
use Rattle.numbers.specs.Numbers.{is_mark, is_there, is_whole, laid, signed_of, whole_of}
use Rattle.numbers.specs.Told.{Answer, told}
use Rattle.kind_gga.specs.Row.{gga_layout, gga_row}
use Rattle.kind_gll.specs.Row.{gll_layout, gll_row}
use Rattle.kind_gsa.specs.Row.{gsa_fields, gsa_layout, gsa_row, gsa_wrong}
use Rattle.kind_gsv.specs.Blank.{is_blank}
use Rattle.kind_gsv.specs.Row.{entries_of, entry_at, entry_from, first_of, gsv_layout, gsv_row, gsv_with}
use Rattle.kind_gsv.specs.Writing.{gsv_fault, gsv_fields, gsv_wrong, rest_blank}
use Rattle.kind_rmc.specs.Row.{rmc_layout, rmc_row}
use Rattle.kind_vtg.specs.Row.{vtg_layout, vtg_row}
use Rattle.kind_zda.specs.Row.{zda_layout, zda_row}
use Rattle.kind_pir_port.specs.Command.{pirpr_layout, pirpr_row}
use Rattle.kind_pir_port.specs.Reply.{pirpa_layout, pirpa_row}
use Rattle.kind_pir_datum.specs.Command.{pirtr_layout, pirtr_row}
use Rattle.kind_pir_datum.specs.Reply.{pirta_layout, pirta_row}
use Rattle.kind_pir_masks.specs.Command.{pirsr_layout, pirsr_row}
use Rattle.kind_pir_masks.specs.Reply.{pirsa_layout, pirsa_row}
use Rattle.kind_pir_code.specs.Command.{pirer_row}
use Rattle.kind_pir_code.specs.Reply.{pirea_layout, pirea_row}
use Rattle.sentence.specs.Back as B
use Rattle.sentence.specs.FromHost.{gps_over, refused_by, written_as}
use Rattle.sentence.specs.Lines.{read_body, read_line}
use Rattle.sentence.specs.ToHost.{handed, told_of}
use Rattle.receiver.specs.declared.Counts.{Counts}
use Rattle.receiver.specs.Command.{outcome_of}
use Rattle.receiver.specs.Settings.{at_start, counts_of, port_good, settings_good}
use Rattle.receiver_numbers.specs.Numbers.{said, setting_numbers, settings_layout}
use Rattle.host.specs.Command.{counts_at, Stepped, stepped}
use Rattle.claims.proofs.Rows.{ones-by}
use Rattle.claims.proofs.WrittenAgain.{line_of}

-- A kind, its numbers as docs/LAYOUT.md lays them out, and its line.
pub record Instance : Type 0 where
  pub kind : ℕ
  pub numbers : List ℤ
  pub line : String

abbrev instance : ℕ → String → List ℤ → Instance
instance kind line numbers = record { kind = kind; numbers = numbers; line = line }

pub instances : List Instance
instances =
    instance 1 "$GPGGA,123519.25,4807.0380,N,01131.0000,W,8,09,0.9,-545.4,M,46.9,M,2.5,1023*70\r\n"
    (pos 0 ∷ pos 1 ∷ pos 4531925 ∷ pos 1 ∷ pos 28870380 ∷ neg_ℤ (pos 6910000) ∷ pos 8 ∷ pos 1 ∷ pos 9 ∷ pos 1 ∷ pos 900 ∷ pos 1
    ∷ neg_ℤ (pos 545400) ∷ pos 1 ∷ pos 46900 ∷ pos 1 ∷ pos 2500 ∷ pos 1 ∷ pos 1023 ∷ [])
    ∷ instance 2 "$GLGLL,5550.6111,S,03732.2534,E,235959.99,A,D*6B\r\n"
    (pos 1 ∷ pos 1 ∷ neg_ℤ (pos 33506111) ∷ pos 22522534 ∷ pos 1 ∷ pos 8639999 ∷ pos 65 ∷ pos 68 ∷ [])
    ∷ instance 3 "$GAGSA,M,3,04,05,09,12,24,33,47,58,61,70,88,99,2.5,1.3,2.1*2A\r\n"
    (pos 2 ∷ pos 77 ∷ pos 3 ∷ pos 1 ∷ pos 4 ∷ pos 1 ∷ pos 5 ∷ pos 1 ∷ pos 9 ∷ pos 1 ∷ pos 12 ∷ pos 1 ∷ pos 24 ∷ pos 1 ∷ pos 33
    ∷ pos 1 ∷ pos 47 ∷ pos 1 ∷ pos 58 ∷ pos 1 ∷ pos 61 ∷ pos 1 ∷ pos 70 ∷ pos 1 ∷ pos 88 ∷ pos 1 ∷ pos 99 ∷ pos 1 ∷ pos 2500
    ∷ pos 1 ∷ pos 1300 ∷ pos 1 ∷ pos 2100 ∷ [])
    ∷ instance 4 "$GQGSV,3,2,11,03,02,111,00,04,15,270,07,06,01,010,21,13,90,292,42*7A\r\n"
    (pos 3 ∷ pos 3 ∷ pos 2 ∷ pos 11 ∷ pos 4 ∷ pos 3 ∷ pos 1 ∷ pos 2 ∷ pos 1 ∷ pos 111 ∷ pos 1 ∷ pos 0 ∷ pos 4 ∷ pos 1 ∷ pos 15
    ∷ pos 1 ∷ pos 270 ∷ pos 1 ∷ pos 7 ∷ pos 6 ∷ pos 1 ∷ pos 1 ∷ pos 1 ∷ pos 10 ∷ pos 1 ∷ pos 21 ∷ pos 13 ∷ pos 1 ∷ pos 90
    ∷ pos 1 ∷ pos 292 ∷ pos 1 ∷ pos 42 ∷ [])
    ∷ instance 5 "$GNRMC,081836.75,A,3751.6500,S,14507.3600,E,12.3,359.999,130998,11.3,W,E*28\r\n"
    (pos 4 ∷ pos 1 ∷ pos 2991675 ∷ pos 65 ∷ pos 1 ∷ neg_ℤ (pos 22716500) ∷ pos 87073600 ∷ pos 1 ∷ pos 12300 ∷ pos 1 ∷ pos 359999
    ∷ pos 1 ∷ pos 13 ∷ pos 9 ∷ pos 1998 ∷ pos 1 ∷ neg_ℤ (pos 11300) ∷ pos 69 ∷ [])
    ∷ instance 6 "$GPVTG,54.7,T,34.4,M,5.5,N,10.2,K,A*15\r\n"
    (pos 0 ∷ pos 1 ∷ pos 54700 ∷ pos 1 ∷ pos 34400 ∷ pos 1 ∷ pos 5500 ∷ pos 1 ∷ pos 10200 ∷ pos 65 ∷ [])
    ∷ instance 7 "$GPZDA,201530.00,04,07,2002,-13,59*43\r\n"
    (pos 0 ∷ pos 1 ∷ pos 7293000 ∷ pos 1 ∷ pos 4 ∷ pos 7 ∷ pos 2002 ∷ pos 1 ∷ neg_ℤ (pos 839) ∷ [])
    ∷ instance 8 "$PIRPR,1,115200,4,0F79*33\r\n" (pos 1 ∷ pos 1 ∷ pos 1 ∷ pos 115200 ∷ pos 1 ∷ pos 4 ∷ pos 1 ∷ pos 3961 ∷ [])
    ∷ instance 9 "$PIRTR,4,-0030*57\r\n" (pos 1 ∷ pos 4 ∷ pos 1 ∷ neg_ℤ (pos 30) ∷ [])
    ∷ instance 10 "$PIRSR,7FFEFFFF,FFFFFE,*17\r\n" (pos 1 ∷ pos 2147418111 ∷ pos 1 ∷ pos 16777214 ∷ [])
    ∷ instance 11 "$PIRER,0*40\r\n"
    []
    ∷ instance 12 "$PIRPA,0,4800,3,007F*24\r\n" (pos 0 ∷ pos 4800 ∷ pos 3 ∷ pos 127 ∷ [])
    ∷ instance 13 "$PIRTA,3,1359*63\r\n" (pos 3 ∷ pos 839 ∷ [])
    ∷ instance 14 "$PIRSA,7FFEFFFF,FFFFFE,*04\r\n" (pos 2147418111 ∷ pos 16777214 ∷ [])
    ∷ instance 15 "$PIREA,255*51\r\n" (pos 255 ∷ [])
    ∷ []

-- An output of 82 bytes, and a slice of as many numbers as the longest kind has.
abbrev output : List ℕ
output = replicate 82 0

abbrev lent : List ℤ
lent = replicate 33 (pos 0)

-- What a list of instances comes to: what the writer answers, the bytes that it wrote, and what the reader tells and lays of their lines.
abbrev written : Instance → Written
written i = written_as i.kind i.numbers output

abbrev bytes : Instance → List ℕ
bytes i = line_of i.kind i.numbers output

abbrev read : Instance → Answer
read i = handed (read_line (ascii i.line)) lent

pub record AllHold (l : List Instance) : Type 0 where
  pub accepted : map written l ≡ map (λ i. wrote (length (ascii i.line))) l
  pub lines : map bytes l ≡ map (λ i. ascii i.line) l
  pub again : map read l ≡ map (λ i. (told 0 i.kind 0, i.numbers ++ drop (length i.numbers) lent)) l

pub every-kind : map (λ (i : Instance). i.kind) instances ≡ 1 ∷ 2 ∷ 3 ∷ 4 ∷ 5 ∷ 6 ∷ 7 ∷ 8 ∷ 9 ∷ 10 ∷ 11 ∷ 12 ∷ 13 ∷ 14 ∷ 15 ∷ []
unfolding instances
every-kind = refl

pub instances-hold : AllHold instances
unfolding same hex_digit hex_of hex_value none_of body_byte body_bytes xor_from xor_of end_form edge_form line_form end_gives
    line_refusal A.look_up A.known_of
    A.comma_free A.address_of onto fields_of join_fields written_of left_of fault_at maybe_of answer_by read_by fault_by fields_for empty_wrong
    outside range_wrong signed_wrong near_of hex_from hex_digits_of print_hex satellites_of satellites_form is_port_mask port_wrong is_whole whole_of
    signed_of laid pirsr_row pirsa_row read_body read_line instances is_digit digits_from digits_of print_fixed find_in pair_at width_of plain_text
    fraction_text number_text maybe_int_of within_of unit_wrong alike_wrong first_wrong is_in letter_of letter_wrong fixed_of before behind
    thousandths number_of below_of height_of is_time clock_of time_of leap_year days_in is_date date_at full_year date_six date_three six_wrong
    three_wrong minus bare_of zone_of zone_at zone_two zone_four whole_form port_mask_of port_mask_form plain_of rate_of rate_form code_of code_form
    joined_of angle_of latitude_of longitude_of lettered_of sided_of both_of position_form variation_form place_wrong standard_numbers maker_numbers
    is_there is_mark gga_row gga_layout gll_row gll_layout gsa_row gsa_layout gsa_wrong gsa_fields is_blank first_of entry_at entry_from gsv_row
    gsv_layout entries_of gsv_with gsv_wrong rest_blank gsv_fault gsv_fields rmc_row rmc_layout vtg_row vtg_layout zda_row zda_layout pirpr_row
    pirpr_layout pirpa_row pirpa_layout pirtr_row pirtr_layout pirta_row pirta_layout pirsr_layout pirsa_layout pirer_row pirea_row pirea_layout
    B.known_of B.address_at B.record_at refused_by gps_over told_of
instances-hold = record { accepted = refl; lines = refl; again = refl }

-- P10 through the exported functions, at the numbers of the settings at start: the reply fits in 28 bytes and in no less, and the masks
-- after it allow 30 and 23 satellites.
abbrev asked : List ℕ
asked = ascii "$PIRSR,7FFEFFFF,FFFFFE,*17\r\n"

abbrev after : ℕ → Stepped
after room = stepped (setting_numbers at_start) 0 asked (replicate room 0)

-- The settings after it, as numbers.
abbrev left : List ℤ
left =
    pos 4800 ∷ pos 4 ∷ pos 127 ∷ pos 4800 ∷ pos 4 ∷ pos 127 ∷ pos 0 ∷ pos 0 ∷ pos 2147418111 ∷ pos 16777214 ∷ pos 0 ∷ []

abbrev counted : ℕ → ℕ → Counts
counted gps glonass = record { no = 0; line = 0; field = 0; gps = gps; glonass = glonass }

pub p10-answered : ((after 28).answer ≡ wrote 28) × ((after 28).out ≡ ascii "$PIRSA,7FFEFFFF,FFFFFE,*04\r\n")
    × ((after 28).numbers ≡ left) × ((after 27).answer ≡ refused 8 1 0)
unfolding same hex_digit hex_of hex_value none_of body_byte body_bytes xor_from xor_of end_form edge_form line_form end_gives
    line_refusal A.look_up A.known_of
    A.comma_free A.address_of onto fields_of join_fields written_of left_of fault_at maybe_of answer_by read_by fault_by fields_for empty_wrong
    outside range_wrong signed_wrong near_of hex_from hex_digits_of print_hex satellites_of satellites_form is_port_mask port_wrong is_whole whole_of
    signed_of laid pirsr_row pirsa_row read_body read_line outcome_of port_good settings_good settings_layout said stepped
p10-answered = (refl, refl, refl, refl)

gps-ones : ones 2147418111 ≡ 30
unfolding ones ones_in
gps-ones = ones-by 32 2147418111

glonass-ones : ones 16777214 ≡ 23
unfolding ones ones_in
glonass-ones = ones-by 24 16777214

left-counted : counts_at left ≡ counted (ones 2147418111) (ones 16777214)
unfolding counts_at said counts_of settings_good port_good settings_layout is_whole whole_of signed_of outside signed_wrong range_wrong port_wrong
    is_port_mask
left-counted = refl

pub p10-counted : counts_at (after 28).numbers ≡ counted 30 23
p10-counted =
    ap counts_at p10-answered.2 ∙ left-counted ∙ ap (λ (n : ℕ). counted n (ones 16777214)) gps-ones ∙ ap (counted 30) glonass-ones
