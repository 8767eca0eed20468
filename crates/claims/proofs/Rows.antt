-- The worked rows that are marked P, as a single list with one claim over it: each row is an equation that is computed.
use Prim.Native.Nat.{◌%◌, ◌+◌, ◌-◌, ◌/◌, ◌^◌, suc, zero, ℕ}
use Prim.Native.String.{String}
use mathlib.Core.Path.{◌∙◌, ◌≡◌, ap, refl}
use mathlib.Core.List.{[], ◌∷◌, List}
use mathlib.Core.Bool.{true}
use Rattle.std.specs.Prelude.{Some}
use native.Mathlib.Omega.{arith}
use lib.IntN.{neg_ℤ, pos}
use lib.Count.{ones, ones_step, ones_in}
use Rattle.digits.specs.Ascii.{ascii}
use Rattle.digits.specs.Decimal.{digits_from, digits_of, is_digit}
use Rattle.digits.specs.Hex.{hex_digit, hex_of, hex_value}
use Rattle.digits.specs.Same.{same}
use Rattle.line.specs.Line.{as_line, body_byte, body_bytes, edge_form, end_form, end_gives, line_form, line_refusal, none_of, xor_from, xor_of}
use Rattle.form.specs.declared.got.GotInt.{GotInt}
use Rattle.form.specs.Got.{got_int_of, maybe_of, within_of}
use Rattle.form_position.specs.Angle.{angle_of, joined_of, latitude_of, lettered_of, longitude_of, sided_of, wrong_int}
use Rattle.form_date.specs.declared.dates.GotDate.{GotDate}
use Rattle.digits.specs.Pairs.{pair_at}
use Rattle.form_date.specs.Calendar.{days_in, is_date, leap_year}
use Rattle.form_date.specs.Dates.{date_at, date_six, full_year, no_date, the_date}
use Rattle.form_date.specs.Zone.{bare_of, minus, wrong_zone, zone_at, zone_of, zone_two}
use Rattle.address.specs.declared.Talker.TheVariants.{Gp}
use Rattle.address.specs.Address.{address_of, comma_free, known_of, look_up}
use Rattle.fields.specs.Fields.{fields_of, join_fields, onto}
use Rattle.form_number.specs.Fixed.{fixed_of}
use Rattle.lines.specs.Cut.{before, cut_lines, cut_rest}
use Rattle.lines.specs.Reader.{read_from, read_lines}
use Rattle.form_mask.specs.Masks.{hex_digits_of, hex_from, is_port_mask, port_wrong, print_hex, satellites_form, satellites_of}
use Rattle.form.specs.Units.{empty_wrong}
use Rattle.form.specs.Values.{no_maybe, outside, range_wrong, signed_wrong}
use Rattle.kind_pir_masks.specs.Command.{pirsr_row}
use Rattle.kind_pir_masks.specs.Reply.{pirsa_row}
use Rattle.frame.specs.Written.{fault_at, written_of}
use Rattle.receiver.specs.declared.Settings.{Settings}
use Rattle.receiver.specs.Settings.{at_start, port_good, settings_good}
use Rattle.receiver.specs.Command.{Outcome, outcome_of, refuses, replies, settings_after}
use Rattle.form.specs.Kind.{answer_by, fault_by, fields_for, read_by}
use Rattle.form.specs.Wrong.{first_wrong, near_of}
use Rattle.kind_gsv.specs.Row.{entries_of, entry_at, entry_from, first_of, gsv_row, gsv_with}
use Rattle.sentence.specs.Lines.{read_body, read_line}
use Rattle.sky.specs.Group.{Answer, ended, entries_at, follows, group_of, gsv_rule, in_place, lines_for, numbered, refused, repeats, rule}
use Rattle.sky.specs.Group.{same_talker, whole}
use Rattle.index_sevens.specs.Sevens.{groups, sevens, take_groups, take_sevens}
use Rattle.index_sevens.specs.Sevens as Sevens
use Rattle.index.specs.Index.{entry_of, fits, length_of, listed, Listing, no_index, read_from as index_from, read_index, skip_of, turns_from}

-- What a row says.
pub data Row : Type 0 where
  -- these bytes, as a line, come to this number of the line rule
  line : String → ℕ → Row
  -- a latitude and its letter, and a longitude and its letter, come to this
  latitude : String → String → GotInt → Row
  longitude : String → String → GotInt → Row
  -- the hours and minutes of a zone come to this
  zone : String → String → GotInt → Row
  -- the six digits of a date come to this
  date : String → GotDate → Row
  -- these bytes, as a group, come to this
  group : String → Answer → Row
  -- this command, to a receiver at start by port 0, is answered with this line
  reply : String → String → Row
  -- and leaves masks that allow so many satellites
  allows : String → ℕ → ℕ → Row
  -- of which this one is not one, counted from 1
  without : String → ℕ → Row
  -- this number in groups of seven bits is these bytes
  grouped : ℕ → List ℕ → Row
  -- these bytes begin with no number
  ungrouped : List ℕ → Row
  -- these bytes, as an index, come to this
  index : List ℕ → Listing → Row

pub rows : List Row
rows =
    -- P1: a line
    line "$GPGSV,5,5,17,77,71,048,53*43\r\n" 0
    -- alone as a group 6, line 1
    ∷ group "$GPGSV,5,5,17,77,71,048,53*43\r\n" (refused 6 1 0)
    -- P2: the same with 71 for 17: still a line, since XOR misses a swap
    ∷ line "$GPGSV,5,5,71,77,71,048,53*43\r\n" 0
    -- P3: a group of none
    ∷ group "$GPGSV,1,1,00*79\r\n" (whole Gp [])
    -- P4: satellite 5, three values missing
    ∷ group "$GPGSV,1,1,01,05,,,*7D\r\n" (whole Gp (record { number = 5; elevation = no_maybe; azimuth = no_maybe; signal = no_maybe } ∷ []))
    -- P5, P6: degrees and minutes are joined, then negated by the letter
    ∷ latitude "5550.6111" "N" (got_int_of (Some (pos 33506111)))
    ∷ longitude "03732.2534" "W" (got_int_of (Some (neg_ℤ (pos 22522534))))
    -- P7: 90 degrees south, and nothing beyond
    ∷ latitude "9000.0000" "S" (got_int_of (Some (neg_ℤ (pos 54000000))))
    ∷ latitude "9000.0001" "S" (wrong_int 1 true)
    -- P8: the sign of -00 hours covers the minutes; there is no minus zero
    ∷ zone "-00" "30" (got_int_of (Some (neg_ℤ (pos 30))))
    ∷ zone "-00" "00" (wrong_zone 2)
    ∷ zone "-13" "59" (got_int_of (Some (neg_ℤ (pos 839))))
    ∷ zone "14" "00" (wrong_zone 1)
    -- P9: 2000 was a leap year, 2023 was not
    ∷ date "290200" (the_date 29 2 2000)
    ∷ date "290223" (no_date 1)
    -- P10: satellite 17 is off
    ∷ reply "$PIRSR,7FFEFFFF,FFFFFE,*17\r\n" "$PIRSA,7FFEFFFF,FFFFFE,*04\r\n"
    ∷ allows "$PIRSR,7FFEFFFF,FFFFFE,*17\r\n" 30 23
    ∷ without "$PIRSR,7FFEFFFF,FFFFFE,*17\r\n" 17
    -- P11: no bytes
    ∷ line "" 1
    ∷ group "" (refused 1 1 0)
    -- 300 is AC 02; 80 00 is not the shortest form of 0
    ∷ grouped 300 (172 ∷ 2 ∷ [])
    ∷ ungrouped (128 ∷ 0 ∷ [])
    -- exhibit 2, of 70 bytes from byte 0 on, and exhibit 10 behind it; a gap of 0; no bytes
    ∷ index (2 ∷ 0 ∷ 70 ∷ 8 ∷ 0 ∷ 70 ∷ [])
    (listed (record { number = 2; offset = 0; length = 70 } ∷ record { number = 10; offset = 70; length = 70 } ∷ []))
    ∷ index (0 ∷ 0 ∷ 70 ∷ []) no_index
    ∷ index [] (listed [])
    ∷ []

-- What a receiver at start makes of a command.
abbrev pub told_by : Outcome → List ℕ
told_by (refuses n k f) = []
told_by (replies after fault body) = as_line body

abbrev pub left_by : Outcome → Settings
left_by (refuses n k f) = at_start
left_by (replies after fault body) = after

unfoldable pub commanded : String → Outcome
commanded text = outcome_of at_start 0 (ascii text)

abbrev pub Holds : Row → Type 0
Holds (line text n) = line_refusal (ascii text) ≡ n
Holds (latitude f u r) = sided_of (ascii "N") (ascii "S") (ascii f) (ascii u) (latitude_of (ascii f)) ≡ r
Holds (longitude f u r) = sided_of (ascii "E") (ascii "W") (ascii f) (ascii u) (longitude_of (ascii f)) ≡ r
Holds (zone h m r) = zone_two (ascii h) (ascii m) ≡ r
Holds (date f r) = date_six (ascii f) ≡ r
Holds (group text a) = group_of (ascii text) ≡ a
Holds (reply text answer) = told_by (commanded text) ≡ ascii answer
Holds (allows text gps glonass) = (ones (left_by (commanded text)).gps ≡ gps) × (ones (left_by (commanded text)).glonass ≡ glonass)
Holds (grouped n bytes) = (sevens n ≡ bytes) × (take_sevens bytes ≡ Sevens.value n [])
Holds (ungrouped bytes) = take_sevens bytes ≡ Sevens.bad
Holds (index bytes x) = read_index bytes ≡ x
Holds (without text k) = (left_by (commanded text)).gps / 2 ^ (k - 1) % 2 ≡ 0

abbrev pub AllHold : List Row → Type 0
AllHold [] = Unit {0}
AllHold (r ∷ rs) = Holds r × AllHold rs

-- The ones of a number, digit by digit from the lowest.
abbrev pub ones_by : ℕ → ℕ → ℕ
ones_by zero n = ones n
ones_by (suc k) n = n % 2 + ones_by k (n / 2)

pub ones-by : (k n : ℕ) → ones n ≡ ones_by k n
ones-by zero n = refl
ones-by (suc k) n = ones_step n ∙ ap (λ (x : ℕ). n % 2 + x) (ones-by k (n / 2))

pub rows-hold : AllHold rows
unfolding rows same hex_digit hex_of none_of body_byte body_bytes xor_from xor_of end_form edge_form line_form end_gives line_refusal is_digit digits_from
    digits_of within_of joined_of angle_of latitude_of longitude_of lettered_of sided_of pair_at leap_year days_in is_date date_at full_year date_six
    minus bare_of zone_of zone_at zone_two look_up known_of comma_free address_of onto fields_of fixed_of maybe_of before cut_rest cut_lines
    read_from read_lines read_by answer_by fault_by fields_for near_of first_wrong first_of entry_at entry_from entries_of gsv_row gsv_with
    read_body read_line lines_for entries_at same_talker in_place follows numbered repeats gsv_rule rule ended group_of join_fields hex_from
    hex_digits_of print_hex satellites_of satellites_form is_port_mask empty_wrong outside range_wrong signed_wrong port_wrong pirsr_row pirsa_row
    port_good settings_good outcome_of hex_value ones ones_in commanded groups sevens take_groups take_sevens fits length_of skip_of entry_of
    turns_from index_from
rows-hold = (
  refl,
  (
    refl,
    (
      refl,
      (
        refl,
        (
          refl,
          (
            refl,
            (
              refl,
              (
                refl,
                (
                  refl,
                  (
                    refl,
                    (
                      refl,
                      (
                        refl,
                        (
                          refl,
                          (
                            refl,
                            (
                              refl,
                              (
                                refl,
                                (
                                  (ones-by 32 2147418111, ones-by 24 16777214),
                                  (refl, (refl, (refl, ((refl, refl), (refl, (refl, (refl, (refl, tt)))))))),
                                ),
                              ),
                            ),
                          ),
                        ),
                      ),
                    ),
                  ),
                ),
              ),
            ),
          ),
        ),
      ),
    ),
  ),
)

-- A step that replies and alters nothing is not the step: row P10 leaves another mask than the one at start.
pub step-alters : ((s : Settings) (p : ℕ) (l : List ℕ) (room : ℕ) → settings_after s (outcome_of s p l) room ≡ s) → ⊥
unfolding same hex_digit hex_of hex_value none_of body_byte body_bytes xor_from xor_of end_form edge_form line_form end_gives line_refusal look_up known_of
    comma_free address_of onto fields_of maybe_of near_of read_by answer_by fault_by fields_for read_body read_line join_fields hex_from hex_digits_of
    print_hex satellites_of satellites_form is_port_mask empty_wrong outside range_wrong signed_wrong port_wrong pirsr_row pirsa_row port_good
    settings_good outcome_of fault_at written_of
step-alters h =
    let e : ◌≡◌ {A = ℕ} 2147418111 4294967295 = ap (λ (s : Settings). s.gps) (h at_start 0 (ascii "$PIRSR,7FFEFFFF,FFFFFE,*17\r\n") 82) in
    omega (arith, e)
