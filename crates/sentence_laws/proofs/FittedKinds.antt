-- Each kind's row without a fault has values that 32 bits hold, so that its layout brings its record back.
use Prim.Native.Nat.{◌-◌, ◌≤◌, ℕ}
use Prim.Native.String.{String}
use mathlib.Core.Path.{◌≡◌, refl, subst}
use mathlib.Core.Bool.{Bool, false, true}
use mathlib.Core.List.{[], ◌∷◌, List}
use native.Mathlib.Omega.{arith}
use borrow.Author.Tests.{eq-eqb, le-leb}
use lib.Dec.{leb, lit<, lit≤, ltb}
use lib.ListN.{get_or, length}
use Rattle.digits.specs.Ascii.{ascii}
use Rattle.form.specs.declared.got.Got.{Got}
use Rattle.form.specs.Units.{unit}
use Rattle.form_time.specs.Time.{last_hundredth, time}
use Rattle.form_number.specs.Number.{full_circle, half_circle, number_most}
use Rattle.form_date.specs.Zone.{zone_most}
use Rattle.kind_gga.specs.Row.{gga_row, gga_wrong, station_most}
use Rattle.kind_pir_port.specs.Command.{pirpr_row, pirpr_wrong, port_most, protocol_most, setting}
use Rattle.kind_pir_datum.specs.Command.{datum_most, pirtr_row, pirtr_wrong, zone}
use Rattle.form_mask.specs.Rates.{code_most, rate_least, rate_most}
use Rattle.kind_pir_masks.specs.Command.{glonass_most, gps_most, pirsr_row, pirsr_wrong}
use Rattle.form_number.specs.Fixed.{satellite_least, satellite_most}
use Rattle.form_letter.specs.Letters.{letter, modes, selections, statuses}
use Rattle.kind_pir_code.specs.declared.reply.CodeTold.{CodeTold}
use Rattle.kind_pir_datum.specs.declared.command.DatumAsked.{DatumAsked}
use Rattle.kind_pir_datum.specs.declared.reply.DatumTold.{DatumTold}
use Rattle.kind_gsv.specs.declared.Entry.{Entry}
use Rattle.kind_gga.specs.declared.Gga.{Gga}
use Rattle.kind_gll.specs.declared.Gll.{Gll}
use Rattle.kind_gsa.specs.declared.Gsa.{Gsa}
use Rattle.kind_gsv.specs.declared.Gsv.{Gsv}
use Rattle.kind_pir_masks.specs.declared.command.MasksAsked.{MasksAsked}
use Rattle.kind_pir_masks.specs.declared.reply.MasksTold.{MasksTold}
use Rattle.kind_pir_port.specs.declared.command.PortAsked.{PortAsked}
use Rattle.kind_pir_port.specs.declared.reply.PortTold.{PortTold}
use Rattle.kind_rmc.specs.declared.Rmc.{Rmc}
use Rattle.kind_vtg.specs.declared.Vtg.{Vtg}
use Rattle.kind_zda.specs.declared.Zda.{Zda}
use Rattle.form.specs.declared.Maybe.{Maybe}
use Rattle.form.specs.Values.{no_maybe}
use Rattle.kind_gsv.specs.Blank.{blank_entry, is_blank}
use Rattle.form.specs.Row.{Form, one}
use Rattle.form_position.specs.Forms.{place, variation}
use Rattle.form_number.specs.Forms.{course, exact, fixed, height, kmh, knots, metres, number}
use Rattle.form_date.specs.Forms.{day_month_year, ddmmyy, filled_zone, hhmm, hours_minutes}
use Rattle.form_mask.specs.Forms.{code, port_mask, rate, satellite_mask, whole_mask}
use Rattle.form.specs.Forms.{empty_field, filled, needed}
use Rattle.form.specs.Kind.{fault_by}
use Rattle.kind_gll.specs.Row.{gll_row, gll_wrong}
use Rattle.kind_rmc.specs.Row.{rmc_row, rmc_wrong}
use Rattle.kind_vtg.specs.Row.{vtg_row, vtg_wrong}
use Rattle.kind_zda.specs.Row.{zda_row, zda_wrong}
use Rattle.kind_pir_port.specs.Reply.{pirpa_row, pirpa_wrong}
use Rattle.kind_pir_datum.specs.Reply.{pirta_row, pirta_wrong}
use Rattle.kind_pir_masks.specs.Reply.{pirsa_row, pirsa_wrong}
use Rattle.kind_pir_code.specs.Reply.{pirea_row, pirea_wrong}
use Rattle.kind_gsa.specs.Row.{gsa_row, gsa_values, gsa_wrong}
use Rattle.kind_gsv.specs.Row as G
use Rattle.kind_gsv.specs.Writing.{gsv_values}
use Rattle.kind_gsv.proofs.GoodLaws.{Good}
use Rattle.form.proofs.Alike.{alike-parts}
use Rattle.form.proofs.Clean.{Clean}
use Rattle.form_letter.proofs.Back.{clean-mode, clean-selection, clean-status}
use Rattle.form.proofs.Lists.{all-four, all-twelve}
use Rattle.form.proofs.Signed.{first-zero}
use Rattle.kind_gsv.proofs.Laws.{good-row}
use Rattle.numbers.specs.Numbers.{most}
use Rattle.numbers.specs.Layout.{◌then◌, Layout, list_held}
use Rattle.kind_gsv.specs.Row.{entry_layout}
use Rattle.form.specs.Numbers.{maybe_layout}
use Rattle.form_date.specs.Numbers.{zone_layout}
use Rattle.numbers.proofs.Layouts.{and-true}
use Rattle.kind_gga.specs.Row.{gga_layout}
use Rattle.kind_gll.specs.Row.{gll_layout}
use Rattle.kind_gsa.specs.Row.{gsa_layout}
use Rattle.kind_gsv.specs.Row.{gsv_layout}
use Rattle.kind_pir_code.specs.Reply.{pirea_layout}
use Rattle.kind_pir_port.specs.Reply.{pirpa_layout}
use Rattle.kind_pir_port.specs.Command.{pirpr_layout}
use Rattle.kind_pir_masks.specs.Reply.{pirsa_layout}
use Rattle.kind_pir_masks.specs.Command.{pirsr_layout}
use Rattle.kind_pir_datum.specs.Reply.{pirta_layout}
use Rattle.kind_pir_datum.specs.Command.{pirtr_layout}
use Rattle.kind_rmc.specs.Row.{rmc_layout}
use Rattle.kind_vtg.specs.Row.{vtg_layout}
use Rattle.kind_zda.specs.Row.{zda_layout}
use Rattle.sentence_laws.proofs.Fitted.{◌⊕◌, blank-held, both, Fitted, fitted-depending, fitted-measured, fitted-one, letter-held}
use Rattle.sentence_laws.proofs.Fitted.{outside-held, place-held, port-held, range-held}
use Rattle.sentence_laws.proofs.Fitted.{signed-held, six-held, three-held, true-zero}

-- The forms that several kinds have.
time-fits : Fitted (one time)
time-fits = fitted-one time (λ m. range-held 0 last_hundredth m.there m.value (lit≤ tt))

place-fits : Fitted (one place)
place-fits = fitted-one place place-held

exact-fits : (w lo hi : ℕ) → hi ≤ most → Fitted (one (exact w lo hi))
exact-fits w lo hi h = fitted-one (exact w lo hi) (λ v. outside-held lo hi v h)

fixed-fits : (w lo hi : ℕ) → hi ≤ most → Fitted (one (fixed w lo hi))
fixed-fits w lo hi h = fitted-one (fixed w lo hi) (λ m. range-held lo hi m.there m.value h)

number_fits : Fitted (one number)
number_fits = fitted-one number (λ n. range-held 0 number_most n.there n.value (lit≤ tt))

course-fits : Fitted (one course)
course-fits = fitted-one course (λ n. range-held 0 (full_circle - 1) n.there n.value (lit≤ tt))

knots-fits : Fitted (one knots)
knots-fits = fitted-one knots (λ n. range-held 0 number_most n.there n.value (lit≤ tt))

kmh-fits : Fitted (one kmh)
kmh-fits = fitted-one kmh (λ n. range-held 0 number_most n.there n.value (lit≤ tt))

metres-fits : Fitted metres
metres-fits =
    fitted-measured (unit "M") (λ g. g.there) (λ z. z.there) (one height)
    (fitted-one height (λ z. signed-held number_most z.there z.value (lit< tt)))

letter-fits : (set : String) → Clean (ascii set) → Fitted (one (letter set))
letter-fits set c = fitted-one (letter set) (λ v. letter-held (ascii set) v c)

mask_fits : (w hi : ℕ) → hi ≤ most → Fitted (one (satellite_mask w hi))
mask_fits w hi h = fitted-one (satellite_mask w hi) (λ m. range-held 0 hi m.there m.value h)

whole-mask-fits : (w hi : ℕ) → hi ≤ most → Fitted (one (whole_mask w hi))
whole-mask-fits w hi h = fitted-one (whole_mask w hi) (λ v. outside-held 0 hi v h)

empty-fits : Fitted (one empty_field)
empty-fits = fitted-one empty_field (λ v e. refl)

pub gga-fits : (r : Gga) → gga_wrong r ≡ 0 → gga_layout.held r ≡ true
unfolding fault_by gga_row gga_layout
gga-fits r e =
    ((time-fits ⊕ place-fits ⊕ exact-fits 1 0 8 (lit≤ tt) ⊕ fixed-fits 2 0 99 (lit≤ tt) ⊕ number_fits ⊕ metres-fits ⊕ metres-fits
    ⊕ number_fits ⊕ fixed-fits 4 0 station_most (lit≤ tt)).fits _ 0 0 e).0

pub gll-fits : (r : Gll) → gll_wrong r ≡ 0 → gll_layout.held r ≡ true
unfolding fault_by gll_row gll_layout
gll-fits r e = ((place-fits ⊕ time-fits ⊕ letter-fits statuses clean-status ⊕ letter-fits modes clean-mode).fits _ 0 0 e).0

pub rmc-fits : (r : Rmc) → rmc_wrong r ≡ 0 → rmc_layout.held r ≡ true
unfolding fault_by rmc_row rmc_layout
rmc-fits r e = ((time-fits ⊕ letter-fits statuses clean-status ⊕ place-fits ⊕ knots-fits ⊕ course-fits ⊕ fitted-one ddmmyy six-held
    ⊕ fitted-one variation (λ z. signed-held (half_circle - 1) z.there z.value (lit< tt)) ⊕ letter-fits modes clean-mode).fits _ 0 0 e).0

pub vtg-fits : (r : Vtg) → vtg_wrong r ≡ 0 → vtg_layout.held r ≡ true
unfolding fault_by vtg_row vtg_layout
vtg-fits r e = ((fitted-measured (unit "T") (λ g. g.there) (λ n. n.there) (one course) course-fits
    ⊕ fitted-measured (unit "M") (λ g. g.there) (λ n. n.there) (one course) course-fits
    ⊕ fitted-measured (unit "N") (λ g. g.there) (λ n. n.there) (one knots) knots-fits
    ⊕ fitted-measured (unit "K") (λ g. g.there) (λ n. n.there) (one kmh) kmh-fits ⊕ letter-fits modes clean-mode).fits _ 0 0 e).0

pub zda-fits : (r : Zda) → zda_wrong r ≡ 0 → zda_layout.held r ≡ true
unfolding fault_by zda_row zda_layout
zda-fits r e = ((time-fits ⊕ fitted-one day_month_year three-held
    ⊕ fitted-one hours_minutes (λ z. signed-held zone_most z.there z.minutes (lit< tt))).fits _ 0 0 e).0

needed-fits : (f : Form Got Maybe) → ((m : Maybe) → f.fault m ≡ 0 → f.layout.held m ≡ true) → (key : Bool)
    → Fitted (one (needed f key))
needed-fits f h key = fitted-one (needed f key) (λ m e. h m (alike-parts key m.there (f.fault m) e).1)

pub pirpr-fits : (r : PortAsked) → pirpr_wrong r ≡ 0 → pirpr_layout.held r ≡ true
unfolding fault_by pirpr_row pirpr_layout
pirpr-fits r e = ((fixed-fits 1 0 port_most (lit≤ tt)
    ⊕ fitted-depending 2 7 (maybe_layout then maybe_layout) (λ g. g.there) (λ m. m.there) (one rate) setting (λ k v. refl)
    (fitted-one rate (λ m. range-held rate_least rate_most m.there m.value (lit≤ tt)))
    (λ key. needed-fits (fixed 1 0 protocol_most) (λ m. range-held 0 protocol_most m.there m.value (lit≤ tt)) key
    ⊕ needed-fits port_mask (λ m. port-held m.there m.value) key)).fits _ 0 0 e).0

pub pirtr-fits : (r : DatumAsked) → pirtr_wrong r ≡ 0 → pirtr_layout.held r ≡ true
unfolding fault_by pirtr_row pirtr_layout
pirtr-fits r e =
    ((fitted-depending 1 6 zone_layout (λ g. g.there) (λ m. m.there) (one (fixed 1 0 datum_most)) zone (λ k v. refl)
    (fixed-fits 1 0 datum_most (lit≤ tt)) (λ key. fitted-one (hhmm key)
    (λ z i. signed-held zone_most z.there z.minutes (lit< tt) (alike-parts key z.there _ i).1))
    ).fits _ 0 0 e).0

pub pirsr-fits : (r : MasksAsked) → pirsr_wrong r ≡ 0 → pirsr_layout.held r ≡ true
unfolding fault_by pirsr_row pirsr_layout
pirsr-fits r e = ((mask_fits 8 gps_most (lit≤ tt) ⊕ mask_fits 6 glonass_most (lit≤ tt) ⊕ empty-fits).fits _ 0 0 e).0

pub pirpa-fits : (r : PortTold) → pirpa_wrong r ≡ 0 → pirpa_layout.held r ≡ true
unfolding fault_by pirpa_row pirpa_layout
pirpa-fits r e = ((exact-fits 1 0 port_most (lit≤ tt) ⊕ fitted-one (filled rate) (λ v. range-held rate_least rate_most true v (lit≤ tt))
    ⊕ exact-fits 1 0 protocol_most (lit≤ tt) ⊕ fitted-one (filled port_mask) (λ v. port-held true v)).fits _ 0 0 e).0

pub pirta-fits : (r : DatumTold) → pirta_wrong r ≡ 0 → pirta_layout.held r ≡ true
unfolding fault_by pirta_row pirta_layout
pirta-fits r e =
    ((exact-fits 1 0 datum_most (lit≤ tt) ⊕ fitted-one filled_zone (λ z. signed-held zone_most true z (lit< tt))).fits _ 0 0 e).0

pub pirsa-fits : (r : MasksTold) → pirsa_wrong r ≡ 0 → pirsa_layout.held r ≡ true
unfolding fault_by pirsa_row pirsa_layout
pirsa-fits r e = ((whole-mask-fits 8 gps_most (lit≤ tt) ⊕ whole-mask-fits 6 glonass_most (lit≤ tt) ⊕ empty-fits).fits _ 0 0 e).0

pub pirea-fits : (r : CodeTold) → pirea_wrong r ≡ 0 → pirea_layout.held r ≡ true
unfolding fault_by pirea_row pirea_layout
pirea-fits r e = ((fitted-one code (λ v. outside-held 0 code_most v (lit≤ tt))).fits _ 0 0 e).0

-- The twelve satellites of a GSA, four by four.
satellite-fits : Fitted (one (fixed 2 satellite_least satellite_most))
satellite-fits = fixed-fits 2 satellite_least satellite_most (lit≤ tt)

abbrev fours : Layout (Maybe × (Maybe × (Maybe × Maybe)))
fours = maybe_layout then maybe_layout then maybe_layout then maybe_layout

four-held : (a b c d : Maybe) (rest : List Maybe) → fours.held (a, (b, (c, d))) ≡ true → list_held maybe_layout rest ≡ true
    → list_held maybe_layout (a ∷ b ∷ c ∷ d ∷ rest) ≡ true
four-held a b c d rest h i =
    let x = and-true (maybe_layout.held a) _ h in
    let y = and-true (maybe_layout.held b) _ x.1 in
    let z = and-true (maybe_layout.held c) (maybe_layout.held d) y.1 in
    both x.0 (both y.0 (both z.0 (both z.1 i)))

abbrev sat : Gsa → ℕ → Maybe
sat r k = get_or r.satellites k no_maybe

pub gsa-fits : (r : Gsa) → length r.satellites ≡ 12 → gsa_wrong r ≡ 0 → gsa_layout.held r ≡ true
unfolding gsa_wrong fault_by gsa_row gsa_layout
gsa-fits r full e =
    let row = satellite-fits ⊕ satellite-fits ⊕ satellite-fits ⊕ satellite-fits in
    let h =
    ((letter-fits selections clean-selection ⊕ exact-fits 1 1 3 (lit≤ tt) ⊕ (row ⊕ row ⊕ row) ⊕ number_fits ⊕ number_fits ⊕ number_fits).fits (gsa_values r) 0 0 e).0 in
    let a = and-true (leb r.selection most) _ h in
    let b = and-true (leb r.fix most) _ a.1 in
    let c = and-true _ _ b.1 in
    let d = and-true _ _ c.0 in
    let f = and-true _ _ d.1 in
    let last = four-held (sat r 8) (sat r 9) (sat r 10) (sat r 11) [] f.1 refl in
    let middle = four-held (sat r 4) (sat r 5) (sat r 6) (sat r 7) (sat r 8 ∷ sat r 9 ∷ sat r 10 ∷ sat r 11 ∷ []) f.0 last in
    let list =
    four-held (sat r 0) (sat r 1) (sat r 2) (sat r 3)
    (sat r 4 ∷ sat r 5 ∷ sat r 6 ∷ sat r 7 ∷ sat r 8 ∷ sat r 9 ∷ sat r 10 ∷ sat r 11 ∷ []) d.0 middle in
    let all = subst (λ (l : List Maybe). list_held maybe_layout l ≡ true) (all-twelve no_maybe r.satellites full) list in
    both a.0 (both b.0 (both (both (eq-eqb (length r.satellites) 12 full) all) c.1))

-- The entries of a GSV, used or blank.
entry-held : (e : Entry) → (G.entry).fault e ≡ 0 → entry_layout.held e ≡ true
unfolding G.first_of
entry-held e i =
    let a = first-zero ((G.satellite_number).fault e.number) (λ q. omega arith) i in
    let b = first-zero ((G.elevation).fault e.elevation) (λ q. omega arith) a.1 in
    let c = first-zero ((G.azimuth).fault e.azimuth) (λ q. omega arith) b.1 in
    let d = first-zero ((G.signal).fault e.signal) (λ q. omega arith) c.1 in
    both (outside-held satellite_least satellite_most e.number (lit≤ tt) a.0)
    (both (range-held 0 90 e.elevation.there e.elevation.value (lit≤ tt) b.0)
    (both (range-held 0 359 e.azimuth.there e.azimuth.value (lit≤ tt) c.0)
    (range-held 0 99 e.signal.there e.signal.value (lit≤ tt) d.0)))

entry-fits : (on : Bool) → Fitted (one (G.entry_if on))
entry-fits true = fitted-one (G.entry_if true) entry-held
entry-fits false = fitted-one (G.entry_if false) (λ e i. blank-held e (true-zero (is_blank e) i))

abbrev at : Gsv → ℕ → Entry
at r k = get_or r.entries k blank_entry

pub gsv-fits : (r : Gsv) → length r.entries ≡ 4 → Good r → gsv_layout.held r ≡ true
unfolding fault_by G.gsv_row gsv_layout
gsv-fits r full good =
    let n = r.count in
    let h =
    ((exact-fits 1 1 9 (lit≤ tt) ⊕ exact-fits 1 1 9 (lit≤ tt) ⊕ exact-fits 2 0 99 (lit≤ tt) ⊕ entry-fits (ltb 0 n) ⊕ entry-fits (ltb 1 n)
    ⊕ entry-fits (ltb 2 n) ⊕ entry-fits (ltb 3 n)).fits (gsv_values r) 0 0 (good-row r good)).0 in
    let a = and-true (leb r.lines most) _ h in
    let b = and-true (leb r.line most) _ a.1 in
    let c = and-true (leb r.satellites most) _ b.1 in
    let d = and-true (entry_layout.held (at r 0)) _ c.1 in
    let f = and-true (entry_layout.held (at r 1)) _ d.1 in
    let g = and-true (entry_layout.held (at r 2)) (entry_layout.held (at r 3)) f.1 in
    let list = both d.0 (both f.0 (both g.0 (both g.1 refl))) in
    let all = subst (λ (l : List Entry). list_held entry_layout l ≡ true) (all-four blank_entry r.entries full) list in
    let few = le-leb n most (omega (arith, good.few)) in
    both a.0 (both b.0 (both c.0 (both few (both (eq-eqb (length r.entries) 4 full) all))))
