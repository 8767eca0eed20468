-- Each kind's numbers stand in one form only: where the record that they say has no fault, its numbers are those again, kind by kind by the
-- rows of their forms. The GPS mask, of which every value of 32 bits is one, is looked for apart.
use Prim.Native.Nat.{◌+◌, ◌-◌, ◌<◌, ◌≤◌, ℕ}
use Prim.Native.String.{String}
use mathlib.Core.Path.{◌∙◌, ◌≡◌, ap, refl}
use mathlib.Core.Bool.{◌&&◌, Bool, cond, false, not, true, true≢false}
use mathlib.Core.List.{List}
use native.Mathlib.Omega.{arith}
use borrow.Author.Tests.{eqb-true}
use lib.Dec.{eqb, lit<, ltb}
use lib.IntN.{ℤ}
use lib.ListN.{length}
use Rattle.digits.specs.Ascii.{ascii}
use Rattle.form.specs.declared.got.Got.{Got}
use Rattle.form.specs.declared.Maybe.{Maybe}
use Rattle.form.specs.Forms.{empty_field, filled, needed}
use Rattle.form.specs.Kind.{fault_by}
use Rattle.form.specs.Numbers.{maybe_layout}
use Rattle.form.specs.Row.{Form, one}
use Rattle.form.specs.Units.{unit}
use Rattle.form.specs.Values.{is_missing, outside, range_wrong}
use Rattle.form.proofs.Alike.{alike-parts}
use Rattle.form.proofs.Clean.{Clean}
use Rattle.form.proofs.Laws.{near-zero}
use Rattle.form.proofs.Signed.{first-zero}
use Rattle.form_date.specs.Forms.{day_month_year, ddmmyy, filled_zone, hhmm, hours_minutes}
use Rattle.form_date.specs.Numbers.{zone_layout}
use Rattle.form_date.specs.Zone.{zone_most}
use Rattle.form_letter.specs.Letters.{letter, modes, selections, statuses}
use Rattle.form_letter.proofs.Back.{clean-mode, clean-selection, clean-status}
use Rattle.form_mask.specs.Forms.{code, port_mask, rate, satellite_mask, whole_mask}
use Rattle.form_mask.specs.Rates.{code_most, rate_least, rate_most}
use Rattle.form_number.specs.Fixed.{satellite_least, satellite_most}
use Rattle.form_number.specs.Forms.{course, exact, fixed, height, kmh, knots, metres, number}
use Rattle.form_number.specs.Number.{full_circle, half_circle, number_most}
use Rattle.form_position.specs.Forms.{place, variation}
use Rattle.form_time.specs.Time.{last_hundredth, time}
use Rattle.kind_gga.specs.Row.{gga_at, gga_layout, gga_row, gga_wrong, station_most}
use Rattle.kind_gll.specs.Row.{gll_at, gll_layout, gll_row, gll_wrong}
use Rattle.kind_gsa.specs.Row.{gsa_at, gsa_layout, gsa_row, gsa_wrong}
use Rattle.kind_gsv.specs.Blank.{is_blank}
use Rattle.kind_gsv.specs.Row.{gsv_at, gsv_layout}
use Rattle.kind_gsv.specs.Row as G
use Rattle.kind_gsv.specs.Writing.{gsv_fault}
use Rattle.kind_gsv.proofs.GoodLaws.{good-is}
use Rattle.kind_gsv.proofs.Laws.{good-row}
use Rattle.kind_pir_code.specs.Reply.{pirea_at, pirea_layout, pirea_row, pirea_wrong}
use Rattle.kind_pir_datum.specs.Command.{datum_most, pirtr_at, pirtr_layout, pirtr_row, pirtr_wrong, zone}
use Rattle.kind_pir_datum.specs.Reply.{pirta_at, pirta_layout, pirta_row, pirta_wrong}
use Rattle.kind_pir_masks.specs.Command.{glonass_most, gps_most, pirsr_at, pirsr_layout, pirsr_row, pirsr_wrong}
use Rattle.kind_pir_masks.specs.Reply.{pirsa_at, pirsa_layout, pirsa_row, pirsa_wrong}
use Rattle.kind_pir_port.specs.Command.{pirpr_at, pirpr_layout, pirpr_row, pirpr_wrong, port_most, protocol_most, setting}
use Rattle.kind_pir_port.specs.Reply.{pirpa_at, pirpa_layout, pirpa_row, pirpa_wrong}
use Rattle.kind_rmc.specs.Row.{rmc_at, rmc_layout, rmc_row, rmc_wrong}
use Rattle.kind_vtg.specs.Row.{vtg_at, vtg_layout, vtg_row, vtg_wrong}
use Rattle.kind_zda.specs.Row.{zda_at, zda_layout, zda_row, zda_wrong}
use Rattle.numbers.specs.Numbers.{is_there, is_whole, most}
use Rattle.numbers.specs.Layout.{◌then◌, nothing, number_at, standard, whole}
use Rattle.numbers.proofs.Layouts.{and-true}
use Rattle.sentence_laws.proofs.Fitted.{true-zero}
use Rattle.claims.proofs.OneForm.{◌⊕◌, missing-range, Said, said-filled-port, said-letter, said-marked, said-mask, said-nothing}
use Rattle.claims.proofs.OneForm.{said-outside, said-place, said-port, said-range, said-sign, said-signed, said-six, said-then}
use Rattle.claims.proofs.OneForm.{said-three, said-whole, signed_below, Spoken, spoken-depending, spoken-measured, spoken-one}
use Rattle.claims.proofs.WrongNumbers.{range-spoilt}

-- The forms that several kinds have.
time-said : Spoken (one time)
time-said = spoken-one time (λ l p. said-range l p 0 last_hundredth (lit< tt))

place-said : Spoken (one place)
place-said = spoken-one place said-place

exact-said : (w lo hi : ℕ) → hi < most → Spoken (one (exact w lo hi))
exact-said w lo hi h = spoken-one (exact w lo hi) (λ l p. said-outside l p lo hi h)

fixed-said : (w lo hi : ℕ) → hi < most → Spoken (one (fixed w lo hi))
fixed-said w lo hi h = spoken-one (fixed w lo hi) (λ l p. said-range l p lo hi h)

number-said : Spoken (one number)
number-said = spoken-one number (λ l p. said-range l p 0 number_most (lit< tt))

course-said : Spoken (one course)
course-said = spoken-one course (λ l p. said-range l p 0 (full_circle - 1) (lit< tt))

knots-said : Spoken (one knots)
knots-said = spoken-one knots (λ l p. said-range l p 0 number_most (lit< tt))

kmh-said : Spoken (one kmh)
kmh-said = spoken-one kmh (λ l p. said-range l p 0 number_most (lit< tt))

metres-said : Spoken metres
metres-said =
    spoken-measured (unit "M") (λ g. g.there) (λ z. z.there) (one height)
    (spoken-one height (λ l p. said-sign l p number_most (lit< tt)))

letter-said : (set : String) → Clean (ascii set) → Spoken (one (letter set))
letter-said set c = spoken-one (letter set) (λ l p. said-letter l p (ascii set) c)

empty-said : Spoken (one empty_field)
empty-said = spoken-one empty_field (λ l p room e. said-nothing l p)

-- The kinds of a talker, whose numbers begin behind the talker's.
module _ (l : List ℤ) where
  pub gga-said : (standard gga_layout).size ≤ length l → gga_wrong (gga_at l) ≡ 0 → Said gga_layout l 1
  unfolding fault_by gga_row gga_layout
  gga-said room e =
      ((time-said ⊕ place-said ⊕ exact-said 1 0 8 (lit< tt) ⊕ fixed-said 2 0 99 (lit< tt) ⊕ number-said ⊕ metres-said ⊕ metres-said
      ⊕ number-said ⊕ fixed-said 4 0 station_most (lit< tt)).says l 1 0 0 room e).0

  pub gll-said : (standard gll_layout).size ≤ length l → gll_wrong (gll_at l) ≡ 0 → Said gll_layout l 1
  unfolding fault_by gll_row gll_layout
  gll-said room e = ((place-said ⊕ time-said ⊕ letter-said statuses clean-status ⊕ letter-said modes clean-mode).says l 1 0 0 room e).0

  pub rmc-said : (standard rmc_layout).size ≤ length l → rmc_wrong (rmc_at l) ≡ 0 → Said rmc_layout l 1
  unfolding fault_by rmc_row rmc_layout
  rmc-said room e = ((time-said ⊕ letter-said statuses clean-status ⊕ place-said ⊕ knots-said ⊕ course-said
      ⊕ spoken-one ddmmyy said-six ⊕ spoken-one variation (λ l p. said-sign l p (half_circle - 1) (lit< tt))
      ⊕ letter-said modes clean-mode).says l 1 0 0 room e).0

  pub vtg-said : (standard vtg_layout).size ≤ length l → vtg_wrong (vtg_at l) ≡ 0 → Said vtg_layout l 1
  unfolding fault_by vtg_row vtg_layout
  vtg-said room e = ((spoken-measured (unit "T") (λ g. g.there) (λ n. n.there) (one course) course-said
      ⊕ spoken-measured (unit "M") (λ g. g.there) (λ n. n.there) (one course) course-said
      ⊕ spoken-measured (unit "N") (λ g. g.there) (λ n. n.there) (one knots) knots-said
      ⊕ spoken-measured (unit "K") (λ g. g.there) (λ n. n.there) (one kmh) kmh-said
      ⊕ letter-said modes clean-mode).says l 1 0 0 room e).0

  pub zda-said : (standard zda_layout).size ≤ length l → zda_wrong (zda_at l) ≡ 0 → Said zda_layout l 1
  unfolding fault_by zda_row zda_layout
  zda-said room e = ((time-said ⊕ spoken-one day_month_year said-three ⊕ spoken-one hours_minutes (λ l p. said-sign l p zone_most (lit< tt))).says l 1 0 0 room e).0

  pub gsa-said : (standard gsa_layout).size ≤ length l → gsa_wrong (gsa_at l) ≡ 0 → Said gsa_layout l 1
  unfolding gsa_wrong fault_by gsa_row gsa_layout
  gsa-said room e =
      let satellite = fixed-said 2 satellite_least satellite_most (lit< tt) in
      let four = satellite ⊕ satellite ⊕ satellite ⊕ satellite in
      ((letter-said selections clean-selection ⊕ exact-said 1 1 3 (lit< tt) ⊕ (four ⊕ four ⊕ four) ⊕ number-said ⊕ number-said
      ⊕ number-said).says l 1 0 0 room e).0

-- The entries of a GSV, used or blank.
module _ (l : List ℤ) (p : ℕ) (room : p + 7 ≤ length l) where
  four-said : (lo a b c d : ℕ) → a < most → b < most → c < most → d < most → outside lo a ((G.entry_layout).at l p).number ≡ 0
      → range_wrong 0 b ((G.entry_layout).at l p).elevation.there ((G.entry_layout).at l p).elevation.value ≡ 0
      → range_wrong 0 c ((G.entry_layout).at l p).azimuth.there ((G.entry_layout).at l p).azimuth.value ≡ 0
      → range_wrong 0 d ((G.entry_layout).at l p).signal.there ((G.entry_layout).at l p).signal.value ≡ 0 → Said G.entry_layout l p
  four-said lo a b c d ha hb hc hd n e z s =
      said-then l p whole (maybe_layout then maybe_layout then maybe_layout) (said-outside l p lo a ha (omega (arith, room)) n)
      (said-then l (p + 1) maybe_layout (maybe_layout then maybe_layout) (said-range l (p + 1) 0 b hb (omega (arith, room)) e)
      (said-then l (p + 1 + 2) maybe_layout maybe_layout (said-range l (p + 1 + 2) 0 c hc (omega (arith, room)) z)
      (said-range l (p + 1 + 2 + 2) 0 d hd (omega (arith, room)) s)))

  used-said : (G.entry).fault ((G.entry_layout).at l p) ≡ 0 → Said G.entry_layout l p
  unfolding G.first_of
  used-said i =
      let e = (G.entry_layout).at l p in
      let a = first-zero ((G.satellite_number).fault e.number) (λ q. omega arith) i in
      let b = first-zero ((G.elevation).fault e.elevation) (λ q. omega arith) a.1 in
      let c = first-zero ((G.azimuth).fault e.azimuth) (λ q. omega arith) b.1 in
      let d = first-zero ((G.signal).fault e.signal) (λ q. omega arith) c.1 in
      four-said satellite_least satellite_most 90 359 99 (lit< tt) (lit< tt) (lit< tt) (lit< tt) a.0 b.0 c.0 d.0

  blank-said : is_blank ((G.entry_layout).at l p) ≡ true → Said G.entry_layout l p
  unfolding is_blank outside
  blank-said i =
      let e = (G.entry_layout).at l p in
      let a = and-true (eqb e.number 0) _ i in
      let b = and-true (is_missing e.elevation) _ a.1 in
      let c = and-true (is_missing e.azimuth) (is_missing e.signal) b.1 in
      four-said 0 0 0 0 0 (lit< tt) (lit< tt) (lit< tt) (lit< tt) (rw (eqb-true e.number 0 a.0))
      (missing-range e.elevation b.0) (missing-range e.azimuth c.0) (missing-range e.signal c.1)

entry-said : (on : Bool) → Spoken (one (G.entry_if on))
entry-said true = spoken-one (G.entry_if true) used-said
entry-said false = spoken-one (G.entry_if false) (λ l p room e. blank-said l p room (true-zero (is_blank ((G.entry_layout).at l p)) e))

-- Between the first three of its numbers and its entries stands the count.
pub gsv-said : (l : List ℤ) → (standard gsv_layout).size ≤ length l → (gsv_fault (gsv_at l)).no ≡ 0 → Said gsv_layout l 1
unfolding fault_by G.gsv_row gsv_layout
gsv-said l room e =
    let good = good-is (gsv_at l) e in
    let n = (gsv_at l).count in
    let first = exact-said 1 1 9 (lit< tt) ⊕ exact-said 1 1 9 (lit< tt) ⊕ exact-said 2 0 99 (lit< tt) in
    let entries = entry-said (ltb 0 n) ⊕ entry-said (ltb 1 n) ⊕ entry-said (ltb 2 n) ⊕ entry-said (ltb 3 n) in
    let a = first.says l 1 0 _ (omega (arith, room)) (good-row (gsv_at l) good) in
    let b = entries.says l 5 3 0 room a.1 in
    let few : whole.at l 4 < most = omega (arith, good.few) in
    let head = whole then whole then whole in
    ap (λ (r : List ℤ). head.numbers (head.at l 1) (whole.numbers (whole.at l 4) r)) b.0
    ∙ ap (head.numbers (head.at l 1)) (said-whole l 4 (omega (arith, room)) few) ∙ a.0

-- The kinds of the maker.
needed-said : (f : Form Got Maybe)
    → ((l : List ℤ) (p : ℕ) → p + f.layout.size ≤ length l → f.fault (f.layout.at l p) ≡ 0 → Said f.layout l p)
    → (key : Bool) → Spoken (one (needed f key))
needed-said f h key =
    spoken-one (needed f key) (λ l p room e. h l p room (alike-parts key (f.layout.at l p).there (f.fault (f.layout.at l p)) e).1)

mask-said : (w hi : ℕ) → hi < most → Spoken (one (satellite_mask w hi))
mask-said w hi h = spoken-one (satellite_mask w hi) (λ l p. said-range l p 0 hi h)

whole-mask-said : (w hi : ℕ) → hi < most → Spoken (one (whole_mask w hi))
whole-mask-said w hi h = spoken-one (whole_mask w hi) (λ l p. said-outside l p 0 hi h)

-- The GPS mask of a command, where a number that 32 bits do not hold was looked for.
not-false : (b : Bool) → not b ≡ false → b ≡ true
not-false true e = refl
not-false false e = absurd (true≢false e)

gps-said : (l : List ℤ) → 2 ≤ length l → (is_there (number_at l 0) && not (is_whole (number_at l 1))) ≡ false
    → range_wrong 0 gps_most (maybe_layout.at l 0).there (maybe_layout.at l 0).value ≡ 0 → Said maybe_layout l 0
unfolding range_wrong
gps-said l room over e =
    said-marked l 0 1 whole (λ v. v) (λ v. range_wrong 0 gps_most v.0 v.1) (range-spoilt 0 gps_most) room e
    (go (is_there (number_at l 0)) over)
  where
    go : (t : Bool) → (t && not (is_whole (number_at l 1))) ≡ false
        → cond t (outside 0 gps_most (whole.at l 1)) (outside 0 0 (whole.at l 1)) ≡ 0 → Said whole l 1
    go true o i = said-mask l 1 room (not-false (is_whole (number_at l 1)) o)
    go false o i = said-outside l 1 0 0 (lit< tt) room i

module _ (l : List ℤ) where
  pub pirpr-said : pirpr_layout.size ≤ length l → pirpr_wrong (pirpr_at l) ≡ 0 → Said pirpr_layout l 0
  unfolding fault_by pirpr_row pirpr_layout
  pirpr-said room e = ((fixed-said 1 0 port_most (lit< tt)
      ⊕ spoken-depending 2 7 (maybe_layout then maybe_layout) (λ g. g.there) (λ m. m.there) (one rate) setting (λ k. refl)
      (spoken-one rate (λ l p. said-range l p rate_least rate_most (lit< tt)))
      (λ key. needed-said (fixed 1 0 protocol_most) (λ l p. said-range l p 0 protocol_most (lit< tt)) key
      ⊕ needed-said port_mask said-port key)).says l 0 0 0 room e).0

  pub pirtr-said : pirtr_layout.size ≤ length l → pirtr_wrong (pirtr_at l) ≡ 0 → Said pirtr_layout l 0
  unfolding fault_by pirtr_row pirtr_layout
  pirtr-said room e =
      ((spoken-depending 1 6 zone_layout (λ g. g.there) (λ m. m.there) (one (fixed 1 0 datum_most)) zone (λ k. refl)
      (fixed-said 1 0 datum_most (lit< tt)) (λ key. spoken-one (hhmm key)
      (λ l p room i. said-sign l p zone_most (lit< tt) room (alike-parts key (zone_layout.at l p).there _ i).1))
      ).says l 0 0 0 room e).0

  pub pirsr-said : pirsr_layout.size ≤ length l → (is_there (number_at l 0) && not (is_whole (number_at l 1))) ≡ false
      → pirsr_wrong (pirsr_at l) ≡ 0 → Said pirsr_layout l 0
  unfolding fault_by pirsr_row pirsr_layout
  pirsr-said room over e =
      let z = near-zero _ _ _ e in
      said-then l 0 maybe_layout (maybe_layout then nothing) (gps-said l (omega (arith, room)) over z.0)
      ((mask-said 6 glonass_most (lit< tt) ⊕ empty-said).says l 2 1 0 room z.1).0

  pub pirpa-said : pirpa_layout.size ≤ length l → pirpa_wrong (pirpa_at l) ≡ 0 → Said pirpa_layout l 0
  unfolding fault_by pirpa_row pirpa_layout range_wrong
  pirpa-said room e = ((exact-said 1 0 port_most (lit< tt) ⊕ spoken-one (filled rate) (λ l p. said-outside l p rate_least rate_most (lit< tt))
      ⊕ exact-said 1 0 protocol_most (lit< tt) ⊕ spoken-one (filled port_mask) said-filled-port).says l 0 0 0 room e).0

  pub pirta-said : pirta_layout.size ≤ length l → pirta_wrong (pirta_at l) ≡ 0 → Said pirta_layout l 0
  unfolding fault_by pirta_row pirta_layout
  pirta-said room e = ((exact-said 1 0 datum_most (lit< tt)
      ⊕ spoken-one filled_zone (λ l p room i. said-signed l p room (signed_below zone_most true _ (lit< tt) i))).says l 0 0 0 room e).0

  pub pirsa-said : pirsa_layout.size ≤ length l → not (is_whole (number_at l 0)) ≡ false → pirsa_wrong (pirsa_at l) ≡ 0 → Said pirsa_layout l 0
  unfolding fault_by pirsa_row pirsa_layout
  pirsa-said room over e =
      let z = near-zero _ _ _ e in
      said-then l 0 whole (whole then nothing) (said-mask l 0 (omega (arith, room)) (not-false (is_whole (number_at l 0)) over))
      ((whole-mask-said 6 glonass_most (lit< tt) ⊕ empty-said).says l 1 1 0 room z.1).0

  pub pirea-said : pirea_layout.size ≤ length l → pirea_wrong (pirea_at l) ≡ 0 → Said pirea_layout l 0
  unfolding fault_by pirea_row pirea_layout
  pirea-said room e = ((spoken-one code (λ l p. said-outside l p 0 code_most (lit< tt))).says l 0 0 0 room e).0
