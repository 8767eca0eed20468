-- Document 01's worked listing: its three lines, read and put as rows, are the three rows that it gives. Each is an equation that is
-- computed.
use Prim.Native.Nat.{ℕ}
use Prim.Native.String.{String}
use mathlib.Core.Path.{◌≡◌, refl}
use mathlib.Core.List.{List}
use mathlib.Core.Bool.{false}
use Rattle.digits.specs.Ascii.{ascii}
use Rattle.digits.specs.Decimal.{digits_from, digits_of, is_digit}
use Rattle.digits.specs.Hex.{hex_digit, hex_of}
use Rattle.digits.specs.Same.{same}
use Rattle.line.specs.Line.{body_byte, body_bytes, edge_form, end_form, end_gives, line_form, line_refusal, none_of, xor_from, xor_of}
use Rattle.address.specs.Address.{address_of, comma_free, known_of, look_up}
use Rattle.fields.specs.Fields.{fields_of, onto}
use Rattle.form_number.specs.Fixed.{fixed_of}
use Rattle.form.specs.Got.{maybe_of, within_of}
use Rattle.form.specs.Kind.{answer_by, read_by}
use Rattle.form.specs.Wrong.{near_of}
use Rattle.kind_gsv.specs.Row.{entries_of, entry_at, entry_from, first_of, gsv_row, gsv_with}
use Rattle.kind_gga.specs.Row.{gga_row}
use Rattle.sentence.specs.Lines.{read_body, read_line}
use Rattle.text.specs.Numbers.{decimal_text, digits_within}
use Rattle.rows.specs.Row.{address_text, answer_text, five_bytes, row_text}

-- The row of a line that is the nth found, without its numbers.
abbrev pub listed : ℕ → String → List ℕ
listed n line = row_text n (ascii line) (read_line (ascii line)) false

pub worked : (listed 1 "$GPGSV,5,5,17,77,71,048,53*43\r\n" ≡ ascii "1 GPGSV ok\n")
    × ((listed 2 "$GPSGG,CSTART*6B\r\n" ≡ ascii "2 - refused 3 0\n")
    × (listed 3 "$GPGGA,000008.00,,,,,0,,,,,,*40\r\n" ≡ ascii "3 GPGGA refused 4 0\n"))
unfolding is_digit digits_from digits_of hex_digit hex_of same none_of body_byte body_bytes xor_from xor_of end_form edge_form line_form end_gives
    line_refusal
    look_up known_of comma_free address_of onto fields_of fixed_of maybe_of within_of read_by answer_by near_of first_of entry_at entry_from entries_of
    gsv_row gsv_with gga_row read_body read_line digits_within decimal_text five_bytes address_text answer_text
worked = (refl, (refl, refl))
