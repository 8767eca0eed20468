-- Why a line was refused, in words, by the number of its refusal and the field: of 1 the first part of the line rule that fails and the
-- byte at which it fails, of 2 the digits that would be right, of 3 the address as it stands, of 4 how many fields there are and how many
-- the kind has, of 5 the field's bytes, its name and its form; of every other number what it says.
use Rattle.std.specs.Prelude.{ℕ, ◌-◌, ◌/◌, ◌%◌, List, [], ◌∷◌, ◌++◌, cond, ◌&&◌, eqb, leb, ltb, length, get_or, take}
use Rattle.digits.specs.Ascii.{ascii}
use Rattle.digits.specs.Decimal.{find_in}
use Rattle.digits.specs.Hex.{hex_of}
use Rattle.line.specs.Line.{body_of, xor_of}
use Rattle.line_flaw.specs.declared.Flaw.{Flaw}
use Rattle.line_flaw.specs.Flaw.{flaw_of}
use Rattle.address.specs.declared.Address.{Address}
use Rattle.address.specs.declared.Address.TheVariants.{Maker, Standard, Unknown}
use Rattle.address.specs.declared.Kind.{Kind}
use Rattle.address.specs.declared.Kind.TheVariants as K
use Rattle.address.specs.declared.Pir.{Pir}
use Rattle.address.specs.declared.Pir.TheVariants as P
use Rattle.address.specs.Address.{address_of}
use Rattle.fields.specs.Fields.{fields_of}
use Rattle.fields.specs.FieldN.{field_bytes}
use Rattle.text.specs.Numbers.{decimal_text}
use Rattle.words.specs.Nth.{nth}
use Rattle.words.specs.Fields.{count_text, field_text}
use Rattle.words.specs.Words.{refusal_text}

-- The number of a kind, as docs/LAYOUT.md counts them; 0 for an unknown address.
abbrev pub standard_no : Kind → ℕ
standard_no K.Gga = 1
standard_no K.Gll = 2
standard_no K.Gsa = 3
standard_no K.Gsv = 4
standard_no K.Rmc = 5
standard_no K.Vtg = 6
standard_no K.Zda = 7

abbrev pub maker_no : Pir → ℕ
maker_no P.Pr = 8
maker_no P.Tr = 9
maker_no P.Sr = 10
maker_no P.Er = 11
maker_no P.Pa = 12
maker_no P.Ta = 13
maker_no P.Sa = 14
maker_no P.Ea = 15

abbrev pub kind_no : Address → ℕ
kind_no (Standard t k) = standard_no k
kind_no (Maker k) = maker_no k
kind_no Unknown = 0

-- `'A'`, or `hex 0A` for a byte that is not hex 20 to 7E.
unfoldable pub byte_text : ℕ → List ℕ
byte_text b =
    cond (leb 0x20 b && leb b 0x7E) (39 ∷ b ∷ 39 ∷ []) (ascii "hex " ++ (hex_of (b / 16) ∷ hex_of (b % 16) ∷ []))

-- `'GPXXX'`
abbrev pub quoted : List ℕ → List ℕ
quoted s = 39 ∷ s ++ (39 ∷ [])

-- What each flaw says, from none on.
abbrev pub flaws : List ℕ
flaws =
    ascii "the line rule holds;too short, a line has at least 7 bytes;too long, a line has at most 82 bytes;a line begins with $"
    ++ ascii ";a line ends with CR LF;ends with LF alone, CR LF is required;* is required here, before two digits and CR LF"
    ++ ascii ";a digit 0-9 or A-F is required here, and small letters are none"
    ++ ascii ";a digit 0-9 or A-F is required here, and small letters are none"
    ++ ascii ";it may not stand in a body"

-- Where a flaw is: of a length how many bytes there are, else the byte.
unfoldable pub flaw_place : List ℕ → Flaw → List ℕ
flaw_place l f =
    cond (ltb f.no 3)
    (decimal_text (length l) ++ ascii " bytes: ")
    (ascii "byte " ++ decimal_text f.at ++ ascii " is " ++ byte_text (get_or l (f.at - 1) 0) ++ ascii ": ")

abbrev pub flaw_text : List ℕ → Flaw → List ℕ
flaw_text l f = flaw_place l f ++ nth 59 f.no flaws

-- The digits of a body.
abbrev pub digits_text : List ℕ → List ℕ
digits_text body = hex_of (xor_of body / 16) ∷ hex_of (xor_of body % 16) ∷ []

-- What stands before the first comma of a body.
abbrev pub address_in : List ℕ → List ℕ
address_in body = take (find_in 44 body) body

-- What a refusal says, and a colon.
abbrev pub said : ℕ → List ℕ
said n = refusal_text n ++ ascii ": "

abbrev pub digits_reason : List ℕ → List ℕ
digits_reason body = said 2 ++ digits_text body ++ ascii " would be right"

abbrev pub address_reason : List ℕ → List ℕ
address_reason body = said 3 ++ quoted (address_in body)

abbrev pub count_reason : List ℕ → List ℕ
count_reason body =
    said 4 ++ decimal_text (length (fields_of body) - 1) ++ ascii " here, " ++ count_text (kind_no (address_of body)) ++ ascii " required"

abbrev pub field_reason : List ℕ → ℕ → List ℕ
field_reason l field =
    quoted (field_bytes l field)
    ++ ascii " in field " ++ decimal_text field ++ ascii "; required: " ++ field_text (kind_no (address_of (body_of l))) field

unfoldable pub reason_text : List ℕ → ℕ → ℕ → List ℕ
reason_text l n field =
    cond (eqb n 1) (flaw_text l (flaw_of l))
    (cond (eqb n 2) (digits_reason (body_of l))
    (cond (eqb n 3) (address_reason (body_of l))
    (cond (eqb n 4) (count_reason (body_of l))
    (cond (eqb n 5) (field_reason l field) (refusal_text n)))))
