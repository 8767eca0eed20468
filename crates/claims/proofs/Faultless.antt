-- From a line the reply never has a fault: what was read is in range, and so are the settings, so what a reply tells is. After 1 to 5 and 9
-- only 8 can follow.
use Prim.Native.Nat.{◌<◌, suc, zero, ℕ}
use mathlib.Core.Path.{◌∙◌, ◌≡◌, ap, refl, sym}
use mathlib.Core.List.{List}
use mathlib.Core.Bool.{◌&&◌, Bool, cond, false, true}
use native.Mathlib.Omega.{arith}
use lib.Dec.{eqb, ltb}
use borrow.Author.Tests.{eqb-true, ltb-true}
use Rattle.digits.proofs.Bools.{and_left, and_right}
use Rattle.form.specs.Values.{alike_wrong, outside, range_wrong, signed_wrong}
use Rattle.form_mask.specs.Masks.{port_wrong}
use Rattle.kind_pir_datum.specs.declared.command.DatumAsked.{DatumAsked}
use Rattle.kind_pir_masks.specs.declared.command.MasksAsked.{MasksAsked}
use Rattle.kind_pir_port.specs.declared.command.PortAsked.{PortAsked}
use Rattle.sentence.specs.Sentence.{Sentence}
use Rattle.sentence.specs.Sentence as S
use Rattle.sentence.specs.Lines.{read_line}
use Rattle.digits.specs.Pick.{pick}
use Rattle.frame.specs.Written.{fault_at}
use Rattle.form.proofs.Ranged.{in-outside}
use Rattle.kind_pir_code.specs.Reply.{pirea_row, pirea_wrong}
use Rattle.kind_pir_port.specs.Reply.{pirpa_row, pirpa_wrong}
use Rattle.kind_pir_port.specs.Command.{pirpr_row, pirpr_wrong}
use Rattle.kind_pir_masks.specs.Reply.{pirsa_row, pirsa_wrong}
use Rattle.kind_pir_masks.specs.Command.{pirsr_row, pirsr_wrong}
use Rattle.kind_pir_datum.specs.Reply.{pirta_row, pirta_wrong}
use Rattle.kind_pir_datum.specs.Command.{pirtr_row, pirtr_wrong}
use Rattle.receiver.specs.declared.Port.{Port}
use Rattle.receiver.specs.declared.Settings.{Settings}
use Rattle.receiver.specs.Settings.{port_good, port_of, settings_good, with_port}
use Rattle.receiver.specs.Command.{after_datum, after_masks, after_port, code_told, datum_told, masks_told, named_port, Outcome, outcome_of}
use Rattle.receiver.specs.Command.{port_asked, port_told, refuses, replies, sentence_outcome}
use Rattle.claims.proofs.Replies.{in-range, InRange, port-set}
use Rattle.claims.proofs.Rewriting.{CanBeWritten}
use Rattle.claims.proofs.Writing as Writing
use Rattle.form.proofs.Laws.{near-zero}
use Rattle.form.specs.Kind.{fault_by}
use Rattle.form.specs.Wrong.{near_of}
use lib.IntN.{ℤ}

-- A refusal, or a reply without a fault.
abbrev pub Faultless : Outcome → Type 0
Faultless (refuses n k f) = Unit {0}
Faultless (replies after fault body) = fault.no ≡ 0

zero-fault : (w : ℕ) → w ≡ 0 → (fault_at w).no ≡ 0
unfolding fault_at
zero-fault w e = rw e

-- A value that is there exactly where another is.
alike : (a b : Bool) (w : ℕ) → alike_wrong a b w ≡ 0 → (a ≡ b) × (w ≡ 0)
unfolding alike_wrong
alike true true w e = (refl, e)
alike false false w e = (refl, e)
alike true false w e = let z : ⊥ = omega (arith, e) in absurd z
alike false true w e = let z : ⊥ = omega (arith, e) in absurd z

named_in : (p : ℕ) (r : PortAsked) → p < 2 → range_wrong 0 1 r.port.there r.port.value ≡ 0 → outside 0 1 (named_port p r) ≡ 0
unfolding range_wrong
named_in p r h e = go r.port.there e
  where
    go : (b : Bool) → range_wrong 0 1 b r.port.value ≡ 0 → outside 0 1 (cond b r.port.value p) ≡ 0
    go true i = i
    go false i = in-outside 0 1 p (omega arith) (omega (arith, h))

-- What PIRPA tells of a port in range, and of one that was just set.
told_of : (s : Settings) (n : ℕ) → InRange s → port_good (port_of s n) ≡ true
told_of s zero g = g.first
told_of s (suc n) g = g.second

port-good : (n : ℕ) (q : Port) → outside 0 1 n ≡ 0 → port_good q ≡ true
    → pirpa_wrong (record { port = n; rate = q.rate; protocol = q.protocol; mask = q.mask }) ≡ 0
unfolding fault_by pirpa_row near_of range_wrong port_good
port-good n q e g =
    let g1 = and_right (eqb (outside 1200 115200 q.rate) 0) _ g in
    let rate = eqb-true (outside 1200 115200 q.rate) 0 (and_left _ _ g) in
    let protocol = eqb-true (outside 0 4 q.protocol) 0 (and_left _ _ g1) in
    let mask = eqb-true (port_wrong true q.mask) 0 (and_right (eqb (outside 0 4 q.protocol) 0) _ g1) in
    rw (e, rate, protocol, mask)

asked-good : (r : PortAsked) → pirpr_wrong r ≡ 0 → r.rate.there ≡ true → port_good (port_asked r) ≡ true
unfolding fault_by pirpr_row port_good range_wrong
asked-good r e t =
    let z0 = near-zero _ _ _ e in
    let z1 = near-zero _ _ _ z0.1 in
    let z2 = near-zero _ _ _ z1.1 in
    let z3 = near-zero _ _ _ z2.1 in
    let a = alike r.rate.there r.protocol.there (range_wrong 0 4 r.protocol.there r.protocol.value) z2.0 in
    let b = alike r.rate.there r.mask.there (port_wrong r.mask.there r.mask.value) z3.0 in
    let rate : outside 1200 115200 r.rate.value ≡ 0 = sym (ap (λ (x : Bool). range_wrong 1200 115200 x r.rate.value) t) ∙ z1.0 in
    let protocol : outside 0 4 r.protocol.value ≡ 0 = sym (ap (λ (x : Bool). range_wrong 0 4 x r.protocol.value)
    (sym a.0 ∙ t)) ∙ a.1 in
    let mask : port_wrong true r.mask.value ≡ 0 = sym (ap (λ (x : Bool). port_wrong x r.mask.value) (sym b.0 ∙ t)) ∙ b.1 in
    rw (rate, protocol, mask)

port-faultless : (s : Settings) (p : ℕ) (r : PortAsked) → InRange s → p < 2 → pirpr_wrong r ≡ 0
    → pirpa_wrong (port_told (after_port s p r) (named_port p r)) ≡ 0
unfolding fault_by pirpr_row
port-faultless s p r g h e = port-good (named_port p r) (port_of (after_port s p r) (named_port p r))
    (named_in p r h (near-zero _ _ _ e).0) (go r.rate.there refl)
  where
    go : (b : Bool) → r.rate.there ≡ b → port_good (port_of (pick b (with_port s (named_port p r) (port_asked r)) s) (named_port p r)) ≡ true
    go true t = ap port_good (port-set (named_port p r) s (port_asked r)) ∙ asked-good r e t
    go false t = told_of s (named_port p r) g

asked-datum : (r : DatumAsked) → pirtr_wrong r ≡ 0
    → (range_wrong 0 4 r.datum.there r.datum.value ≡ 0)
    × (alike_wrong r.datum.there r.zone.there (signed_wrong 839 r.zone.there r.zone.minutes) ≡ 0)
unfolding fault_by pirtr_row
asked-datum r e = let z0 = near-zero _ _ _ e in let z1 = near-zero _ _ _ z0.1 in (z0.0, z1.0)

datum-told : (d : ℕ) (z : ℤ) → outside 0 4 d ≡ 0 → signed_wrong 839 true z ≡ 0 → pirta_wrong (record { datum = d; zone = z }) ≡ 0
unfolding fault_by pirta_row near_of
datum-told d z e f = rw (e, f)

datum-faultless : (s : Settings) (r : DatumAsked) → InRange s → pirtr_wrong r ≡ 0 → pirta_wrong (datum_told (after_datum s r)) ≡ 0
unfolding range_wrong
datum-faultless s r g e = go r.datum.there refl
  where
    go : (b : Bool) → r.datum.there ≡ b
        → pirta_wrong
        (datum_told (pick b (record {
          first = s.first;
          second = s.second;
          datum = r.datum.value;
          zone = r.zone.minutes;
          gps = s.gps;
          glonass = s.glonass;
          code = s.code;
        }) s)) ≡ 0
    go true t =
        let z = asked-datum r e in
        let a = alike r.datum.there r.zone.there (signed_wrong 839 r.zone.there r.zone.minutes) z.1 in
        datum-told r.datum.value r.zone.minutes (sym (ap (λ (x : Bool). range_wrong 0 4 x r.datum.value) t) ∙ z.0)
        (sym (ap (λ (x : Bool). signed_wrong 839 x r.zone.minutes) (sym a.0 ∙ t)) ∙ a.1)
    go false t = datum-told s.datum s.zone g.datum g.zone

mask-in : (hi : ℕ) (there : Bool) (v old : ℕ) → range_wrong 0 hi there v ≡ 0 → outside 0 hi old ≡ 0 → outside 0 hi (cond there v old) ≡ 0
unfolding range_wrong
mask-in hi true v old e f = e
mask-in hi false v old e f = f

asked-masks : (r : MasksAsked) → pirsr_wrong r ≡ 0
    → (range_wrong 0 4294967295 r.gps.there r.gps.value ≡ 0) × (range_wrong 0 16777215 r.glonass.there r.glonass.value ≡ 0)
unfolding fault_by pirsr_row
asked-masks r e = let z0 = near-zero _ _ _ e in let z1 = near-zero _ _ _ z0.1 in (z0.0, z1.0)

masks-told : (a b : ℕ) → outside 0 4294967295 a ≡ 0 → outside 0 16777215 b ≡ 0 → pirsa_wrong (record { gps = a; glonass = b }) ≡ 0
unfolding fault_by pirsa_row near_of
masks-told a b e f = rw (e, f)

masks-faultless : (s : Settings) (r : MasksAsked) → InRange s → pirsr_wrong r ≡ 0 → pirsa_wrong (masks_told (after_masks s r)) ≡ 0
masks-faultless s r g e =
    let z = asked-masks r e in
    masks-told _ _ (mask-in 4294967295 r.gps.there r.gps.value s.gps z.0 g.gps)
    (mask-in 16777215 r.glonass.there r.glonass.value s.glonass z.1 g.glonass)

code-faultless : (s : Settings) → InRange s → pirea_wrong (code_told s) ≡ 0
unfolding fault_by pirea_row near_of
code-faultless s g = rw g.code

sentence-faultless : (s : Settings) (p : ℕ) (x : Sentence) → InRange s → p < 2 → CanBeWritten x
    → Faultless (sentence_outcome s p x)
sentence-faultless s p (S.Pr r) g h w = zero-fault _ (port-faultless s p r g h w.0)
sentence-faultless s p (S.Tr r) g h w = zero-fault _ (datum-faultless s r g w.0)
sentence-faultless s p (S.Sr r) g h w = zero-fault _ (masks-faultless s r g w.0)
sentence-faultless s p S.Er g h w = zero-fault _ (code-faultless s g)
sentence-faultless s p (S.Refused n f) g h w = tt
sentence-faultless s p (S.Gga t r) g h w = tt
sentence-faultless s p (S.Gll t r) g h w = tt
sentence-faultless s p (S.Gsa t r) g h w = tt
sentence-faultless s p (S.Gsv t r) g h w = tt
sentence-faultless s p (S.Rmc t r) g h w = tt
sentence-faultless s p (S.Vtg t r) g h w = tt
sentence-faultless s p (S.Zda t r) g h w = tt
sentence-faultless s p (S.Pa r) g h w = tt
sentence-faultless s p (S.Ta r) g h w = tt
sentence-faultless s p (S.Sa r) g h w = tt
sentence-faultless s p (S.Ea r) g h w = tt

-- Whatever the settings, the port and the line.
pub replies-faultless : (s : Settings) (p : ℕ) (l : List ℕ) → Faultless (outcome_of s p l)
unfolding outcome_of
replies-faultless s p l = go (ltb p 2 && settings_good s) (eqb (port_of s p).protocol 4) refl
  where
    go : (a b : Bool) → (ltb p 2 && settings_good s) ≡ a
        → Faultless (pick a (pick b (sentence_outcome s p (read_line l)) (refuses 10 1 0)) (refuses 5 0 0))
    go true true e =
        sentence-faultless s p (read_line l) (in-range s (and_right (ltb p 2) _ e)) (ltb-true p 2 (and_left _ _ e))
        (Writing.read-can-be-written l)
    go true false e = tt
    go false b e = tt
