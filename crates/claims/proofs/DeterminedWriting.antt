-- The functions that write: any two results that a contract permits are equal. A put answers a place and leaves a buffer, both as one
-- definition says; a writer answers and leaves the output as `Writes` says.
use Prim.Native.Nat.{ℕ}
use mathlib.Core.Path.{◌∙◌, ◌≡◌, ap, sym}
use mathlib.Core.List.{[], ◌++◌, ◌∷◌, List}
use mathlib.Core.Bool.{Bool, true}
use lib.IntN.{nat_abs, ℤ}
use lib.ListN.{take}
use Rattle.address.specs.declared.Talker.{Talker}
use Rattle.digits.specs.Decimal.{print_fixed}
use Rattle.digits.specs.Plain.{number_text, plain_text}
use Rattle.form_time.specs.Time.{clock_text}
use Rattle.form_date.specs.Zone.{four_text}
use Rattle.form_mask.specs.Masks.{port_wrong, print_hex}
use Rattle.form_date.specs.declared.Date.{Date}
use Rattle.form_position.specs.declared.Place.{Place}
use Rattle.form_number.specs.declared.Number.{Number}
use Rattle.form_number.specs.declared.Signed.{Signed}
use Rattle.form_date.specs.declared.Zone.{Zone}
use Rattle.put.specs.Wrote.{Held, held, Puts, PutsFields}
use Rattle.form.specs.declared.Maybe.{Maybe}
use Rattle.form.specs.Values.{alike_wrong, if_there, maybe_text, outside, range_wrong, signed_wrong}
use Rattle.form_letter.specs.Letters.{letter_field, letter_wrong}
use Rattle.form_position.specs.Values.{ew_field, lat_field, lon_field, ns_field, place_wrong, variation_field, variation_side}
use Rattle.form_date.specs.Values.{day_field, hours_field, minutes_field, month_field, six_field, six_wrong, three_wrong, year_field}
use Rattle.form_number.specs.Values.{height_field}
use Rattle.frame.specs.declared.Written.{Written}
use Rattle.frame.specs.Body.{talker_text}
use Rattle.frame.specs.Written.{fault_at, refused, Writes}
use Rattle.bodies.specs.Bodies.{body_fault, why_of}
use Rattle.kind_gsv.specs.declared.Entry.{Entry}
use Rattle.kind_gsa.specs.declared.Gsa.{Gsa}
use Rattle.kind_gsv.specs.declared.Gsv.{Gsv}
use Rattle.kind_gsa.specs.Row.{gsa_body, gsa_wrong}
use Rattle.kind_gsv.specs.Writing.{first_in, gsv_body, gsv_fault}
use Rattle.kind_gsv.specs.Blank.{is_blank}
use Rattle.kind_pir_code.specs.Command.{pirer_body}
use Rattle.kind_gga.specs.declared.Gga.{Gga}
use Rattle.kind_gga.specs.Row.{gga_body, gga_wrong}
use Rattle.kind_gll.specs.declared.Gll.{Gll}
use Rattle.kind_gll.specs.Row.{gll_body, gll_wrong}
use Rattle.kind_rmc.specs.declared.Rmc.{Rmc}
use Rattle.kind_rmc.specs.Row.{rmc_body, rmc_wrong}
use Rattle.kind_vtg.specs.declared.Vtg.{Vtg}
use Rattle.kind_vtg.specs.Row.{vtg_body, vtg_wrong}
use Rattle.kind_zda.specs.declared.Zda.{Zda}
use Rattle.kind_zda.specs.Row.{zda_body, zda_wrong}
use Rattle.kind_pir_port.specs.declared.command.PortAsked.{PortAsked}
use Rattle.kind_pir_port.specs.Command.{pirpr_body, pirpr_wrong}
use Rattle.kind_pir_datum.specs.declared.command.DatumAsked.{DatumAsked}
use Rattle.kind_pir_datum.specs.Command.{pirtr_body, pirtr_wrong}
use Rattle.kind_pir_masks.specs.declared.command.MasksAsked.{MasksAsked}
use Rattle.kind_pir_masks.specs.Command.{pirsr_body, pirsr_wrong}
use Rattle.kind_pir_port.specs.declared.reply.PortTold.{PortTold}
use Rattle.kind_pir_port.specs.Reply.{pirpa_body, pirpa_wrong}
use Rattle.kind_pir_datum.specs.declared.reply.DatumTold.{DatumTold}
use Rattle.kind_pir_datum.specs.Reply.{pirta_body, pirta_wrong}
use Rattle.kind_pir_masks.specs.declared.reply.MasksTold.{MasksTold}
use Rattle.kind_pir_masks.specs.Reply.{pirsa_body, pirsa_wrong}
use Rattle.kind_pir_code.specs.declared.reply.CodeTold.{CodeTold}
use Rattle.kind_pir_code.specs.Reply.{pirea_body, pirea_wrong}
use Rattle.sky.specs.Group.{entries_at, lines_for}
use Rattle.sky.specs.Marks.{had_if, marked_if}
use Rattle.claims.proofs.Determined.{One, one}

-- One place and one buffer after a text was put, or some fields.
abbrev pub OnePut : List ℕ → ℕ → List ℕ → Type 0
OnePut d at text = (r q : ℕ) (e f : List ℕ) → Puts (held at d) text (held r e) → Puts (held at d) text (held q f) → (r ≡ q) × (e ≡ f)

abbrev pub OneFields : List ℕ → ℕ → List (List ℕ) → Type 0
OneFields d at fields = (r q : ℕ) (e f : List ℕ) → PutsFields (held at d) fields (held r e) → PutsFields (held at d) fields (held q f)
    → (r ≡ q) × (e ≡ f)

halves : (r q : ℕ) (e f : List ℕ) → held r e ≡ held q f → (r ≡ q) × (e ≡ f)
halves r q e f p = (ap (λ (h : Held). h.place) p, ap (λ (h : Held). h.bytes) p)

pub one-put : (d : List ℕ) (at : ℕ) (text : List ℕ) → OnePut d at text
one-put d at text r q e f p s = halves r q e f (p.is ∙ sym s.is)

pub one-fields : (d : List ℕ) (at : ℕ) (fields : List (List ℕ)) → OneFields d at fields
one-fields d at fields r q e f p s = halves r q e f (p.is ∙ sym s.is)

-- One answer and one output.
abbrev pub OneWriting : Written → List ℕ → List ℕ → Type 0
OneWriting fault body out = (a b : Written) (l m : List ℕ) → Writes fault body out a l → Writes fault body out b m → (a ≡ b) × (l ≡ m)

pub one-writing : (fault : Written) (body out : List ℕ) → OneWriting fault body out
one-writing fault body out a b l m v w = (v.answers ∙ sym w.answers, v.leaves ∙ sym w.leaves)

-- put
pub put : (d : List ℕ) (at : ℕ) (b : ℕ) → OnePut d at (b ∷ [])
put d at b = one-put d at (b ∷ [])

pub put-bytes : (d : List ℕ) (at : ℕ) (t : List ℕ) → OnePut d at (t)
put-bytes d at t = one-put d at (t)

pub put_one : (d : List ℕ) (at : ℕ) (v : ℕ) → OnePut d at (print_fixed 1 v)
put_one d at v = one-put d at (print_fixed 1 v)

pub put_two : (d : List ℕ) (at : ℕ) (v : ℕ) → OnePut d at (print_fixed 2 v)
put_two d at v = one-put d at (print_fixed 2 v)

pub put_three : (d : List ℕ) (at : ℕ) (v : ℕ) → OnePut d at (print_fixed 3 v)
put_three d at v = one-put d at (print_fixed 3 v)

pub put_four : (d : List ℕ) (at : ℕ) (v : ℕ) → OnePut d at (print_fixed 4 v)
put_four d at v = one-put d at (print_fixed 4 v)

pub put-plain : (d : List ℕ) (at : ℕ) (v : ℕ) → OnePut d at (plain_text v)
put-plain d at v = one-put d at (plain_text v)

pub put-number : (d : List ℕ) (at : ℕ) (v : ℕ) → OnePut d at (number_text v)
put-number d at v = one-put d at (number_text v)

-- bodies
pub body-write : (body out : List ℕ) → OneWriting (body_fault body) body out
body-write body out = one-writing (body_fault body) body out

pub body-reason : (s : List ℕ) → One (why_of s)
body-reason s = one

-- what is sent of a value
pub sent-maybe : (m : Maybe) → One m
sent-maybe m = one

pub sent-number : (v : ℕ) → One {A = Maybe} (record { there = true; value = v })
sent-number v = one

pub sent-thousandths : (n : Number) → One {A = Maybe} (record { there = n.there; value = n.value })
sent-thousandths n = one

-- ranges
pub range-within : (v : ℕ) (lo : ℕ) (hi : ℕ) → One (outside lo hi v)
range-within v lo hi = one

pub range-maybe : {T : Type 0} (sent : T → Maybe) (v : T) (lo : ℕ) (hi : ℕ) → One (range_wrong lo hi (sent v).there (sent v).value)
range-maybe sent v lo hi = one

pub range_size : (z : ℤ) → One (nat_abs z)
range_size z = one

pub range-signed : (there : Bool) (z : ℤ) (hi : ℕ) → One (signed_wrong hi there z)
range-signed there z hi = one

pub range-letter : (v : ℕ) (set : List ℕ) → One (letter_wrong set v)
range-letter v set = one

pub range-place : (p : Place) → One (place_wrong p)
range-place p = one

pub range-six : (d : Date) → One (six_wrong d)
range-six d = one

pub range-three : (d : Date) → One (three_wrong d)
range-three d = one

pub range-port-mask : (there : Bool) (v : ℕ) → One (port_wrong there v)
range-port-mask there v = one

pub range-alike : (needed : Bool) (there : Bool) (wrong : ℕ) → One (alike_wrong needed there wrong)
range-alike needed there wrong = one

-- texts
pub text-one : {T : Type 0} (sent : T → Maybe) (d : List ℕ) (at : ℕ) (v : T) → OneFields d at (maybe_text (print_fixed 1) (sent v) ∷ [])
text-one sent d at v = one-fields d at (maybe_text (print_fixed 1) (sent v) ∷ [])

pub text-two : {T : Type 0} (sent : T → Maybe) (d : List ℕ) (at : ℕ) (v : T) → OneFields d at (maybe_text (print_fixed 2) (sent v) ∷ [])
text-two sent d at v = one-fields d at (maybe_text (print_fixed 2) (sent v) ∷ [])

pub text-three : {T : Type 0} (sent : T → Maybe) (d : List ℕ) (at : ℕ) (v : T) → OneFields d at (maybe_text (print_fixed 3) (sent v) ∷ [])
text-three sent d at v = one-fields d at (maybe_text (print_fixed 3) (sent v) ∷ [])

pub text-four : {T : Type 0} (sent : T → Maybe) (d : List ℕ) (at : ℕ) (v : T) → OneFields d at (maybe_text (print_fixed 4) (sent v) ∷ [])
text-four sent d at v = one-fields d at (maybe_text (print_fixed 4) (sent v) ∷ [])

pub text-plain : {T : Type 0} (sent : T → Maybe) (d : List ℕ) (at : ℕ) (v : T) → OneFields d at (maybe_text plain_text (sent v) ∷ [])
text-plain sent d at v = one-fields d at (maybe_text plain_text (sent v) ∷ [])

pub text-number : {T : Type 0} (sent : T → Maybe) (d : List ℕ) (at : ℕ) (v : T) → OneFields d at (maybe_text number_text (sent v) ∷ [])
text-number sent d at v = one-fields d at (maybe_text number_text (sent v) ∷ [])

pub text-time : {T : Type 0} (sent : T → Maybe) (d : List ℕ) (at : ℕ) (v : T) → OneFields d at (maybe_text clock_text (sent v) ∷ [])
text-time sent d at v = one-fields d at (maybe_text clock_text (sent v) ∷ [])

pub text-height : (d : List ℕ) (at : ℕ) (z : Signed) → OneFields d at (height_field z ∷ [])
text-height d at z = one-fields d at (height_field z ∷ [])

pub text-unit : (d : List ℕ) (at : ℕ) (there : Bool) (b : ℕ) → OneFields d at (if_there there (b ∷ []) ∷ [])
text-unit d at there b = one-fields d at (if_there there (b ∷ []) ∷ [])

pub text-letter : (d : List ℕ) (at : ℕ) (v : ℕ) → OneFields d at (letter_field v ∷ [])
text-letter d at v = one-fields d at (letter_field v ∷ [])

pub text-empty : (d : List ℕ) (at : ℕ) → OneFields d at ([] ∷ [])
text-empty d at = one-fields d at ([] ∷ [])

pub text-place : (d : List ℕ) (at : ℕ) (p : Place) → OneFields d at (lat_field p ∷ ns_field p ∷ lon_field p ∷ ew_field p ∷ [])
text-place d at p = one-fields d at (lat_field p ∷ ns_field p ∷ lon_field p ∷ ew_field p ∷ [])

pub text-variation : (d : List ℕ) (at : ℕ) (n : Signed) → OneFields d at (variation_field n ∷ variation_side n ∷ [])
text-variation d at n = one-fields d at (variation_field n ∷ variation_side n ∷ [])

pub text-six : (d : List ℕ) (at : ℕ) (x : Date) → OneFields d at (six_field x ∷ [])
text-six d at x = one-fields d at (six_field x ∷ [])

pub text-date-three : (d : List ℕ) (at : ℕ) (x : Date) → OneFields d at (day_field x ∷ month_field x ∷ year_field x ∷ [])
text-date-three d at x = one-fields d at (day_field x ∷ month_field x ∷ year_field x ∷ [])

pub text-zone : (d : List ℕ) (at : ℕ) (z : Zone) → OneFields d at (hours_field z ∷ minutes_field z ∷ [])
text-zone d at z = one-fields d at (hours_field z ∷ minutes_field z ∷ [])

pub text-zone-four : (d : List ℕ) (at : ℕ) (z : Zone) → OneFields d at (if_there z.there (four_text z.minutes) ∷ [])
text-zone-four d at z = one-fields d at (if_there z.there (four_text z.minutes) ∷ [])

pub text-hex-four : {T : Type 0} (sent : T → Maybe) (d : List ℕ) (at : ℕ) (v : T) → OneFields d at (maybe_text (print_hex 4) (sent v) ∷ [])
text-hex-four sent d at v = one-fields d at (maybe_text (print_hex 4) (sent v) ∷ [])

pub text-hex-six : {T : Type 0} (sent : T → Maybe) (d : List ℕ) (at : ℕ) (v : T) → OneFields d at (maybe_text (print_hex 6) (sent v) ∷ [])
text-hex-six sent d at v = one-fields d at (maybe_text (print_hex 6) (sent v) ∷ [])

pub text-hex-eight : {T : Type 0} (sent : T → Maybe) (d : List ℕ) (at : ℕ) (v : T) → OneFields d at (maybe_text (print_hex 8) (sent v) ∷ [])
text-hex-eight sent d at v = one-fields d at (maybe_text (print_hex 8) (sent v) ∷ [])

-- frame
pub seal-refuse : (n : ℕ) (line : ℕ) (field : ℕ) → One (refused n line field)
seal-refuse n line field = one

pub seal-fault : (wrong : ℕ) → One (fault_at wrong)
seal-fault wrong = one

pub seal-address : (d : List ℕ) (t : Talker) (kind : List ℕ) → OnePut d 0 (talker_text t ++ kind)
seal-address d t kind = one-put d 0 (talker_text t ++ kind)

pub seal-finish : (out scratch : List ℕ) (n : ℕ) (fault : Written) → OneWriting fault (take n scratch) out
seal-finish out scratch n fault = one-writing fault (take n scratch) out

-- the writers
pub write-gga : (out : List ℕ) (t : Talker) (r : Gga) → OneWriting (fault_at (gga_wrong r)) (gga_body t r) out
write-gga out t r = one-writing (fault_at (gga_wrong r)) (gga_body t r) out

pub write-gll : (out : List ℕ) (t : Talker) (r : Gll) → OneWriting (fault_at (gll_wrong r)) (gll_body t r) out
write-gll out t r = one-writing (fault_at (gll_wrong r)) (gll_body t r) out

pub write-rmc : (out : List ℕ) (t : Talker) (r : Rmc) → OneWriting (fault_at (rmc_wrong r)) (rmc_body t r) out
write-rmc out t r = one-writing (fault_at (rmc_wrong r)) (rmc_body t r) out

pub write-vtg : (out : List ℕ) (t : Talker) (r : Vtg) → OneWriting (fault_at (vtg_wrong r)) (vtg_body t r) out
write-vtg out t r = one-writing (fault_at (vtg_wrong r)) (vtg_body t r) out

pub write-zda : (out : List ℕ) (t : Talker) (r : Zda) → OneWriting (fault_at (zda_wrong r)) (zda_body t r) out
write-zda out t r = one-writing (fault_at (zda_wrong r)) (zda_body t r) out

pub write-gsa : (out : List ℕ) (t : Talker) (r : Gsa) → OneWriting (fault_at (gsa_wrong r)) (gsa_body t r) out
write-gsa out t r = one-writing (fault_at (gsa_wrong r)) (gsa_body t r) out

pub write-gsv : (out : List ℕ) (t : Talker) (r : Gsv) → OneWriting (gsv_fault r) (gsv_body t r) out
write-gsv out t r = one-writing (gsv_fault r) (gsv_body t r) out

pub write-pirpr : (out : List ℕ) (r : PortAsked) → OneWriting (fault_at (pirpr_wrong r)) (pirpr_body r) out
write-pirpr out r = one-writing (fault_at (pirpr_wrong r)) (pirpr_body r) out

pub write-pirtr : (out : List ℕ) (r : DatumAsked) → OneWriting (fault_at (pirtr_wrong r)) (pirtr_body r) out
write-pirtr out r = one-writing (fault_at (pirtr_wrong r)) (pirtr_body r) out

pub write-pirsr : (out : List ℕ) (r : MasksAsked) → OneWriting (fault_at (pirsr_wrong r)) (pirsr_body r) out
write-pirsr out r = one-writing (fault_at (pirsr_wrong r)) (pirsr_body r) out

pub write-pirpa : (out : List ℕ) (r : PortTold) → OneWriting (fault_at (pirpa_wrong r)) (pirpa_body r) out
write-pirpa out r = one-writing (fault_at (pirpa_wrong r)) (pirpa_body r) out

pub write-pirta : (out : List ℕ) (r : DatumTold) → OneWriting (fault_at (pirta_wrong r)) (pirta_body r) out
write-pirta out r = one-writing (fault_at (pirta_wrong r)) (pirta_body r) out

pub write-pirsa : (out : List ℕ) (r : MasksTold) → OneWriting (fault_at (pirsa_wrong r)) (pirsa_body r) out
write-pirsa out r = one-writing (fault_at (pirsa_wrong r)) (pirsa_body r) out

pub write-pirea : (out : List ℕ) (r : CodeTold) → OneWriting (fault_at (pirea_wrong r)) (pirea_body r) out
write-pirea out r = one-writing (fault_at (pirea_wrong r)) (pirea_body r) out

pub write-pirer : (out : List ℕ) → OneWriting (fault_at 0) pirer_body out
write-pirer out = one-writing (fault_at 0) pirer_body out

-- sky
pub sky-lines-for : (n : ℕ) → One (lines_for n)
sky-lines-for n = one

pub sky-entries-at : (n k : ℕ) → One (entries_at n k)
sky-entries-at n k = one

pub sky-mark : (seen : List ℕ) (used : Bool) (n : ℕ) → One (had_if used n seen) × One (marked_if used n seen)
sky-mark seen used n = (one, one)

pub is-blank : (e : Entry) → One (is_blank e)
is-blank e = one

pub entry-wrong : (used : Bool) (e : Entry) (n rest : ℕ) → One (first_in used n e rest)
entry-wrong used e n rest = one
