-- What each field of a kind is, and how many a kind has: a table says the fields of a kind, each behind a bar, by their names with their
-- units, and their forms. A form that several fields have is named by `%` and its letter.
use Rattle.std.specs.Prelude.{ℕ, List, ◌++◌, get_or}
use Rattle.digits.specs.Ascii.{ascii}
use Rattle.digits.specs.Decimal.{find_in}
use Rattle.words.specs.Nth.{nth}

-- The forms, each behind its comma, in the order of their letters: a time, a latitude and its letter, a longitude and its letter, a
-- number, a height, a course, a unit, a status, a mode, a satellite, elevation, azimuth and signal,
-- the mask of a port, a zone and a rate.
abbrev pub form_letters : List ℕ
form_letters = ascii "tabcdkhousmneigxzr"

abbrev pub forms : List ℕ
forms =
    ascii ", hhmmss.ss or empty;, ddmm.mmmm up to 9000.0000, or empty;, N or S, empty exactly where the latitude is"
    ++ ascii ";, dddmm.mmmm up to 18000.0000, empty exactly where the latitude is;, E or W, empty exactly where the longitude is"
    ++ ascii ";, 1 to 6 digits, then perhaps a point and 1 to 3 digits, or empty"
    ++ ascii ";, 1 to 6 digits, then perhaps a point and 1 to 3 digits, a minus before them or none, or empty"
    ++ ascii ";, 1 to 6 digits, then perhaps a point and 1 to 3 digits, below 360, or empty"
    ++ ascii ";, or empty where the value before it is;, A or V;, A, D, E, M, S or N;, 01 to 99 or empty;, 00 to 90 or empty"
    ++ ascii ";, 000 to 359 or empty;, 00 to 99 or empty;, four digits 0-9 or A-F, bits 7 and 12 to 15 zero"
    ++ ascii ";, hhmm from 0000 to 1359, a minus before it or none but not -0000;, 1200 to 115200 without leading zeros"

-- Fields that several kinds have.
abbrev pub time : List ℕ
time = ascii "|time of day UTC%t"

abbrev pub status : List ℕ
status = ascii "|status%s"

abbrev pub mode : List ℕ
mode = ascii "|mode%m"

abbrev pub position : List ℕ
position = ascii "|latitude%a|north or south%b|longitude%c|east or west%d"

-- Four satellites of GSA, and one of GSV.
abbrev pub four : List ℕ
four = ascii "|satellite used%n|satellite used%n|satellite used%n|satellite used%n"

abbrev pub entry : List ℕ
entry = ascii "|satellite number, 01 to 99|elevation in degrees%e|azimuth in degrees%i|signal in dB%g"

abbrev pub gga_fields : List ℕ
gga_fields =
    time ++ position ++ ascii "|fix quality, one digit 0 to 8|satellites used, two digits or empty|horizontal dilution%k"
    ++ ascii "|altitude above sea level in metres%h|unit M%u|geoid height in metres%h|unit M%u"
    ++ ascii "|age of corrections in seconds%k|reference station, 0000 to 1023 or empty"

abbrev pub gll_fields : List ℕ
gll_fields = position ++ time ++ status ++ mode

abbrev pub gsa_fields : List ℕ
gsa_fields =
    ascii "|selection, M or A|fix, one digit 1 to 3" ++ four ++ four ++ four
    ++ ascii "|position dilution%k|horizontal dilution%k|vertical dilution%k"

abbrev pub gsv_fields : List ℕ
gsv_fields = ascii "|lines, one digit 1 to 9|this line, one digit 1 to 9|satellites in view, 00 to 99" ++ entry ++ entry ++ entry ++ entry

abbrev pub rmc_fields : List ℕ
rmc_fields =
    time ++ status ++ position ++ ascii "|speed in knots%k|true course in degrees%o|date, ddmmyy of a day that exists, or empty"
    ++ ascii "|magnetic variation in degrees, 1 to 6 digits, then perhaps a point and 1 to 3 digits, below 180, or empty"
    ++ ascii "|east or west, E or W%u" ++ mode

abbrev pub vtg_fields : List ℕ
vtg_fields =
    ascii "|true course in degrees%o|unit T%u|magnetic course in degrees%o|unit M%u|speed in knots%k|unit N%u"
    ++ ascii "|speed in kilometres per hour%k|unit K%u" ++ mode

abbrev pub zda_fields : List ℕ
zda_fields =
    time ++ ascii "|day, 01 to 31, or empty|month, 01 to 12, empty exactly where the day is"
    ++ ascii "|year, 1980 to 2079 with a day that exists, empty exactly where the day is"
    ++ ascii "|hours of the zone, 00 to 13, a minus before them or none, or empty"
    ++ ascii "|minutes of the zone, 00 to 59, not 00 behind -00, empty exactly where the hours are"

abbrev pub pirpr_fields : List ℕ
pirpr_fields =
    ascii "|port, 0, 1 or empty|rate in bits per second, empty to ask, else%r"
    ++ ascii "|protocol, 0 to 4, empty only where the rate is|mask, empty only where the rate is, else%x"

abbrev pub pirtr_fields : List ℕ
pirtr_fields = ascii "|datum, 0 to 4, or empty to ask|zone, empty only where the datum is, else%z"

abbrev pub pirsr_fields : List ℕ
pirsr_fields =
    ascii "|GPS mask, 1 to 8 digits 0-9 or A-F, -1 for all, or empty"
    ++ ascii "|GLONASS mask, 1 to 6 digits 0-9 or A-F, -1 for all, or empty|nothing, always empty"

abbrev pub pirer_fields : List ℕ
pirer_fields = ascii "|self-test, 0"

abbrev pub pirpa_fields : List ℕ
pirpa_fields = ascii "|port, 0 or 1|rate in bits per second%r|protocol, 0 to 4|mask%x"

abbrev pub pirta_fields : List ℕ
pirta_fields = ascii "|datum, 0 to 4|zone%z"

abbrev pub pirsa_fields : List ℕ
pirsa_fields = ascii "|GPS mask, eight digits 0-9 or A-F|GLONASS mask, six digits 0-9 or A-F|nothing, always empty"

abbrev pub pirea_fields : List ℕ
pirea_fields = ascii "|self-test code, 0 to 255 without leading zeros"

-- The kinds from 1 on, each behind its semicolon.
abbrev pub fields : List ℕ
fields =
    ascii ";" ++ gga_fields
    ++ ascii ";" ++ gll_fields
    ++ ascii ";" ++ gsa_fields
    ++ ascii ";" ++ gsv_fields
    ++ ascii ";" ++ rmc_fields
    ++ ascii ";" ++ vtg_fields
    ++ ascii ";" ++ zda_fields
    ++ ascii ";" ++ pirpr_fields
    ++ ascii ";" ++ pirtr_fields
    ++ ascii ";" ++ pirsr_fields
    ++ ascii ";" ++ pirer_fields
    ++ ascii ";" ++ pirpa_fields
    ++ ascii ";" ++ pirta_fields
    ++ ascii ";" ++ pirsa_fields
    ++ ascii ";" ++ pirea_fields

unfoldable pub form_words : ℕ → List ℕ
form_words letter = nth 59 (find_in letter form_letters) forms

-- Field n of a kind, from 1 on: its name with its unit, and its form; nothing for what is no kind, or no field of it.
abbrev pub field_entry : ℕ → ℕ → List ℕ
field_entry kind field = nth 124 field (nth 59 kind fields)

unfoldable pub field_text : ℕ → ℕ → List ℕ
field_text kind field = nth 37 0 (field_entry kind field) ++ form_words (get_or (nth 37 1 (field_entry kind field)) 0 0)

-- How many fields a kind has.
abbrev pub count_text : ℕ → List ℕ
count_text kind = nth 59 kind (ascii ";14;7;17;3, 7, 11, 15 or 19;12;9;6;4;2;3;1;4;2;3;1")
