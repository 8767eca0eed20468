-- The layout of each kind is lawful, a line a kind; so the record at the numbers of a record is that record, whatever numbers come after.
use Prim.Native.Nat.{◌≤◌}
use mathlib.Core.Path.{◌≡◌, ap, refl}
use mathlib.Core.Bool.{true}
use mathlib.Core.List.{[], ◌++◌, List}
use native.Mathlib.Omega.{arith}
use lib.Dec.{lit≤}
use lib.IntN.{ℤ}
use lib.ListN.{length, length-append}
use Rattle.address.specs.declared.Talker.{Talker}
use Rattle.form.specs.Values.{no_maybe}
use Rattle.kind_gsv.specs.Blank.{blank_entry}
use Rattle.numbers.specs.Numbers.{talker_number}
use Rattle.numbers.specs.Layout.{◌then◌, Layout, nothing, shaped, whole}
use Rattle.numbers.proofs.Arrays.{lawful-several}
use Rattle.numbers.proofs.Fitting.{whole_back}
use Rattle.numbers.proofs.Layouts.{◌⊗◌, lawful-nothing, lawful-shaped, lawful-signed, lawful-whole, LawfulLayout}
use Rattle.form_date.proofs.Numbers.{lawful-date}
use Rattle.kind_gsv.proofs.Numbers.{lawful-entry}
use Rattle.form_number.proofs.Numbers.{lawful-kmh, lawful-knots, lawful-number}
use Rattle.form.proofs.Numbers.{lawful-maybe}
use Rattle.form_position.proofs.Numbers.{lawful-place}
use Rattle.form_number.proofs.Numbers.{lawful-signs}
use Rattle.numbers.proofs.Values.{lawful-talker, numbers-back, numbers-many, talker-held}
use Rattle.form_date.proofs.Numbers.{lawful-zone}
use Rattle.kind_gga.specs.Row.{gga_layout, gga_row}
use Rattle.kind_gll.specs.Row.{gll_layout, gll_row}
use Rattle.kind_gsa.specs.Row.{gsa_layout}
use Rattle.kind_gsv.specs.Row.{gsv_layout}
use Rattle.numbers.specs.Layout.{maker_numbers}
use Rattle.kind_pir_code.specs.Reply.{pirea_layout, pirea_row}
use Rattle.kind_pir_port.specs.Reply.{pirpa_layout, pirpa_row}
use Rattle.kind_pir_port.specs.Command.{pirpr_layout, pirpr_row}
use Rattle.kind_pir_masks.specs.Reply.{pirsa_layout, pirsa_row}
use Rattle.kind_pir_masks.specs.Command.{pirsr_layout, pirsr_row}
use Rattle.kind_pir_datum.specs.Reply.{pirta_layout, pirta_row}
use Rattle.kind_pir_datum.specs.Command.{pirtr_layout, pirtr_row}
use Rattle.kind_rmc.specs.Row.{rmc_layout, rmc_row}
use Rattle.numbers.specs.Layout.{standard, standard_numbers}
use Rattle.kind_vtg.specs.Row.{vtg_layout, vtg_row}
use Rattle.kind_zda.specs.Row.{zda_layout, zda_row}
use Rattle.sentence.specs.Numbers.{count_of, kind_of, numbers_of}
use Rattle.sentence.specs.Sentence as S
use Rattle.sentence.specs.Sentence.{Sentence}

-- A value with its unit's letter has the numbers of the value.
lawful-measured : {X : Type 0} {a : Layout X} → LawfulLayout a
    → LawfulLayout (shaped (λ (v : X × Unit {0}). v.0) (λ v. (v, tt)) (a then nothing))
lawful-measured {a = a} f = lawful-shaped (λ v. v.0) (λ v. (v, tt)) (a then nothing) (λ r. refl) (f ⊗ lawful-nothing)

pub lawful-gga : LawfulLayout gga_layout
unfolding gga_layout gga_row
lawful-gga = lawful-shaped (λ v. record {
  time = v.0;
  place = v.1.0;
  quality = v.1.1.0;
  satellites = v.1.1.1.0;
  hdop = v.1.1.1.1.0;
  altitude = v.1.1.1.1.1.0;
  geoid = v.1.1.1.1.1.1.0;
  age = v.1.1.1.1.1.1.1.0;
  station = v.1.1.1.1.1.1.1.1;
})
    (λ r. (r.time, (r.place, (r.quality, (r.satellites, (r.hdop, (r.altitude, (r.geoid, (r.age, r.station))))))))) _ (λ r. refl)
    (lawful-maybe ⊗ lawful-place ⊗ lawful-whole ⊗ lawful-maybe ⊗ lawful-number ⊗ lawful-measured lawful-signs ⊗ lawful-measured lawful-signs
    ⊗ lawful-number ⊗ lawful-maybe)

pub lawful-gll : LawfulLayout gll_layout
unfolding gll_layout gll_row
lawful-gll = lawful-shaped (λ v. record { place = v.0; time = v.1.0; status = v.1.1.0; mode = v.1.1.1 })
    (λ r. (r.place, (r.time, (r.status, r.mode)))) _ (λ r. refl) (lawful-place ⊗ lawful-maybe ⊗ lawful-whole ⊗ lawful-whole)

pub lawful-gsa : LawfulLayout gsa_layout
unfolding gsa_layout
lawful-gsa = lawful-shaped (λ v. record {
  selection = v.0;
  fix = v.1.0;
  satellites = v.1.1.0;
  pdop = v.1.1.1.0;
  hdop = v.1.1.1.1.0;
  vdop = v.1.1.1.1.1;
}) (λ r. (r.selection, (r.fix, (r.satellites, (r.pdop, (r.hdop, r.vdop)))))) _ (λ r. refl)
    (lawful-whole ⊗ lawful-whole ⊗ lawful-several 12 no_maybe lawful-maybe ⊗ lawful-number ⊗ lawful-number ⊗ lawful-number)

pub lawful-gsv : LawfulLayout gsv_layout
unfolding gsv_layout
lawful-gsv = lawful-shaped (λ v. record {
  lines = v.0;
  line = v.1.0;
  satellites = v.1.1.0;
  count = v.1.1.1.0;
  entries = v.1.1.1.1;
}) (λ r. (r.lines, (r.line, (r.satellites, (r.count, r.entries))))) _ (λ r. refl)
    (lawful-whole ⊗ lawful-whole ⊗ lawful-whole ⊗ lawful-whole ⊗ lawful-several 4 blank_entry lawful-entry)

pub lawful-rmc : LawfulLayout rmc_layout
unfolding rmc_layout rmc_row
lawful-rmc = lawful-shaped (λ v. record {
  time = v.0;
  status = v.1.0;
  place = v.1.1.0;
  speed = v.1.1.1.0;
  course = v.1.1.1.1.0;
  date = v.1.1.1.1.1.0;
  variation = v.1.1.1.1.1.1.0;
  mode = v.1.1.1.1.1.1.1;
}) (λ r. (r.time, (r.status, (r.place, (r.speed, (r.course, (r.date, (r.variation, r.mode)))))))) _ (λ r. refl)
    (lawful-maybe ⊗ lawful-whole ⊗ lawful-place ⊗ lawful-knots ⊗ lawful-number ⊗ lawful-date ⊗ lawful-signs ⊗ lawful-whole)

pub lawful-vtg : LawfulLayout vtg_layout
unfolding vtg_layout vtg_row
lawful-vtg = lawful-shaped (λ v. record {
  course = v.0;
  magnetic = v.1.0;
  knots = v.1.1.0;
  kmh = v.1.1.1.0;
  mode = v.1.1.1.1;
}) (λ r. (r.course, (r.magnetic, (r.knots, (r.kmh, r.mode))))) _ (λ r. refl)
    (lawful-measured lawful-number ⊗ lawful-measured lawful-number ⊗ lawful-measured lawful-knots ⊗ lawful-measured lawful-kmh
    ⊗ lawful-whole)

pub lawful-zda : LawfulLayout zda_layout
unfolding zda_layout zda_row
lawful-zda = lawful-shaped (λ v. record { time = v.0; date = v.1.0; zone = v.1.1 })
    (λ r. (r.time, (r.date, r.zone))) _ (λ r. refl) (lawful-maybe ⊗ lawful-date ⊗ lawful-zone)

pub lawful-pirpr : LawfulLayout pirpr_layout
unfolding pirpr_layout pirpr_row
lawful-pirpr = lawful-shaped (λ v. record { port = v.0; rate = v.1.0; protocol = v.1.1.0; mask = v.1.1.1 })
    (λ r. (r.port, (r.rate, (r.protocol, r.mask)))) _ (λ r. refl) (lawful-maybe ⊗ lawful-maybe ⊗ lawful-maybe ⊗ lawful-maybe)

pub lawful-pirtr : LawfulLayout pirtr_layout
unfolding pirtr_layout pirtr_row
lawful-pirtr = lawful-shaped (λ v. record { datum = v.0; zone = v.1 }) (λ r. (r.datum, r.zone)) _ (λ r. refl)
    (lawful-maybe ⊗ lawful-zone)

pub lawful-pirsr : LawfulLayout pirsr_layout
unfolding pirsr_layout pirsr_row
lawful-pirsr = lawful-shaped (λ v. record { gps = v.0; glonass = v.1.0 }) (λ r. (r.gps, (r.glonass, tt))) _ (λ r. refl)
    (lawful-maybe ⊗ lawful-maybe ⊗ lawful-nothing)

pub lawful-pirpa : LawfulLayout pirpa_layout
unfolding pirpa_layout pirpa_row
lawful-pirpa = lawful-shaped (λ v. record { port = v.0; rate = v.1.0; protocol = v.1.1.0; mask = v.1.1.1 })
    (λ r. (r.port, (r.rate, (r.protocol, r.mask)))) _ (λ r. refl) (lawful-whole ⊗ lawful-whole ⊗ lawful-whole ⊗ lawful-whole)

pub lawful-pirta : LawfulLayout pirta_layout
unfolding pirta_layout pirta_row
lawful-pirta = lawful-shaped (λ v. record { datum = v.0; zone = v.1 }) (λ r. (r.datum, r.zone)) _ (λ r. refl)
    (lawful-whole ⊗ lawful-signed)

pub lawful-pirsa : LawfulLayout pirsa_layout
unfolding pirsa_layout pirsa_row
lawful-pirsa = lawful-shaped (λ v. record { gps = v.0; glonass = v.1.0 }) (λ r. (r.gps, (r.glonass, tt))) _ (λ r. refl)
    (lawful-whole ⊗ lawful-whole ⊗ lawful-nothing)

pub lawful-pirea : LawfulLayout pirea_layout
unfolding pirea_layout pirea_row
lawful-pirea = lawful-shaped (λ v. record { code = v }) (λ r. r.code) _ (λ r. refl) (lawful-whole)

-- Of a talker's sentence: its numbers are as many as its kind has, the first says the talker, and the record comes back.
module _ {R : Type 0} {a : Layout R} (f : LawfulLayout a) (t : Talker) (r : R) (rest : List ℤ) where
  pub standard-long : (standard a).size ≤ length (standard_numbers a t r ++ rest)
  unfolding standard_numbers
  standard-long = omega (arith, numbers-many (lawful-talker ⊗ f) (t, r), length-append (standard_numbers a t r) rest)

  pub standard-first : whole.at (standard_numbers a t r ++ rest) 0 ≡ talker_number t
  unfolding standard_numbers
  standard-first = whole_back (talker_number t) (talker-held t)

  pub standard-back : a.held r ≡ true → ((standard a).at (standard_numbers a t r ++ rest) 0).1 ≡ r
  unfolding standard_numbers
  standard-back h = ap (λ (v : Talker × R). v.1) (numbers-back (lawful-talker ⊗ f) [] (t, r) rest (rw (talker-held t, h)))

-- Of one of the maker.
module _ {R : Type 0} {a : Layout R} (f : LawfulLayout a) (r : R) (rest : List ℤ) where
  pub maker-long : a.size ≤ length (maker_numbers a r ++ rest)
  unfolding maker_numbers
  maker-long = omega (arith, numbers-many f r, length-append (maker_numbers a r) rest)

  pub maker-back : a.held r ≡ true → a.at (maker_numbers a r ++ rest) 0 ≡ r
  unfolding maker_numbers
  maker-back h = numbers-back f [] r rest h

-- A sentence has as many numbers as its kind, and no kind has more than 33.
pub many-numbers : (s : Sentence) → (length (numbers_of s) ≡ count_of (kind_of s)) × (count_of (kind_of s) ≤ 33)
unfolding standard_numbers maker_numbers gga_layout gga_row gll_layout gll_row gsa_layout gsv_layout rmc_layout rmc_row vtg_layout vtg_row zda_layout
    zda_row pirpr_layout pirpr_row pirtr_layout pirtr_row pirsr_layout pirsr_row pirpa_layout pirpa_row pirta_layout pirta_row pirsa_layout pirsa_row
    pirea_layout pirea_row
many-numbers (S.Gga t r) = (refl, lit≤ tt)
many-numbers (S.Gll t r) = (refl, lit≤ tt)
many-numbers (S.Gsa t r) = (refl, lit≤ tt)
many-numbers (S.Gsv t r) = (refl, lit≤ tt)
many-numbers (S.Rmc t r) = (refl, lit≤ tt)
many-numbers (S.Vtg t r) = (refl, lit≤ tt)
many-numbers (S.Zda t r) = (refl, lit≤ tt)
many-numbers (S.Pr r) = (refl, lit≤ tt)
many-numbers (S.Tr r) = (refl, lit≤ tt)
many-numbers (S.Sr r) = (refl, lit≤ tt)
many-numbers S.Er = (refl, lit≤ tt)
many-numbers (S.Pa r) = (refl, lit≤ tt)
many-numbers (S.Ta r) = (refl, lit≤ tt)
many-numbers (S.Sa r) = (refl, lit≤ tt)
many-numbers (S.Ea r) = (refl, lit≤ tt)
many-numbers (S.Refused n f) = (refl, lit≤ tt)

pub most-numbers : (s : Sentence) → length (numbers_of s) ≤ 33
most-numbers s = let m = many-numbers s in omega (arith, m.0, m.1)
