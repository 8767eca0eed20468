-- The reply of a command that was carried out: it tells the values after it, it reads back as the record of them, and since it was written
-- they are in range, so that settings in range stay so.
use Prim.Native.Nat.{suc, zero, ℕ}
use mathlib.Core.Path.{◌∙◌, ◌≡◌, ap, refl, subst, sym}
use mathlib.Core.List.{List}
use mathlib.Core.Bool.{◌&&◌, Bool, false, true}
use lib.Dec.{eqb, ltb}
use lib.ListN.{length, take}
use borrow.Author.Tests.{eq-eqb, eqb-true}
use Rattle.digits.proofs.Bools.{and_left, and_right}
use Rattle.form.specs.Values.{outside, range_wrong, signed_wrong}
use Rattle.kind_pir_datum.specs.declared.command.DatumAsked.{DatumAsked}
use Rattle.kind_pir_masks.specs.declared.command.MasksAsked.{MasksAsked}
use Rattle.kind_pir_port.specs.declared.command.PortAsked.{PortAsked}
use Rattle.sentence.specs.Sentence.{Sentence}
use Rattle.sentence.specs.Sentence as S
use Rattle.sentence.specs.Lines.{read_line}
use Rattle.frame.specs.declared.Written.{Written}
use Rattle.digits.specs.Pick.{pick}
use Rattle.frame.specs.Written.{Writes, written_of}
use Rattle.kind_pir_port.specs.Reply.{pirpa_row, pirpa_wrong}
use Rattle.kind_pir_masks.specs.Reply.{pirsa_row, pirsa_wrong}
use Rattle.kind_pir_datum.specs.Reply.{pirta_row, pirta_wrong}
use Rattle.receiver.specs.declared.Done.{Done}
use Rattle.receiver.specs.declared.Port.{Port}
use Rattle.receiver.specs.declared.Settings.{Settings}
use Rattle.receiver.specs.Settings.{port_good, port_of, settings_good, with_port}
use Rattle.receiver.specs.Command.{after_datum, after_masks, after_port, code_told, datum_told, Does, masks_told, named_port, outcome_of, port_asked}
use Rattle.receiver.specs.Command.{port_told, refuses, replies, sentence_outcome, settings_after}
use Rattle.claims.proofs.Writing as Writing
use Rattle.form.proofs.Laws.{near-zero}
use Rattle.form.specs.Kind.{fault_by}

-- A command that replies, and answers a length.
module _ {s after : Settings} {fault : Written} {body out : List ℕ} {d : Done} {left : List ℕ}
    (w : Does s (replies after fault body) out d left) where
  writes : Writes fault body out d.written left
  writes = record { answers = w.answers; leaves = w.leaves }

  pub settings-are : d.written.no ≡ 0 → d.settings ≡ after
  settings-are h = w.settings ∙ rw (eq-eqb (written_of fault body (length out)).no 0 (sym (ap (λ (x : Written). x.no) w.answers) ∙ h))

-- Each reply carries the values after the command, and reads back as the record of those values.
module _ (s : Settings) (p : ℕ) {out : List ℕ} {d : Done} {left : List ℕ} where
  pub port-reply : (r : PortAsked) → Does s (sentence_outcome s p (S.Pr r)) out d left → d.written.no ≡ 0
      → read_line (take d.written.length left) ≡ S.Pa (port_told d.settings (named_port p r))
  port-reply r w h =
      Writing.pirpa-back (port_told (after_port s p r) (named_port p r)) (writes w) h
      ∙ ap (λ (x : Settings). S.Pa (port_told x (named_port p r))) (sym (settings-are w h))

  pub datum-reply : (r : DatumAsked) → Does s (sentence_outcome s p (S.Tr r)) out d left → d.written.no ≡ 0
      → read_line (take d.written.length left) ≡ S.Ta (datum_told d.settings)
  datum-reply r w h = Writing.pirta-back (datum_told (after_datum s r)) (writes w) h ∙ ap (λ (x : Settings). S.Ta (datum_told x))
      (sym (settings-are w h))

  pub masks-reply : (r : MasksAsked) → Does s (sentence_outcome s p (S.Sr r)) out d left → d.written.no ≡ 0
      → read_line (take d.written.length left) ≡ S.Sa (masks_told d.settings)
  masks-reply r w h = Writing.pirsa-back (masks_told (after_masks s r)) (writes w) h ∙ ap (λ (x : Settings). S.Sa (masks_told x))
      (sym (settings-are w h))

  pub test-reply : Does s (sentence_outcome s p S.Er) out d left → d.written.no ≡ 0
      → read_line (take d.written.length left) ≡ S.Ea (code_told d.settings)
  test-reply w h = Writing.pirea-back (code_told s) (writes w) h ∙ ap (λ (x : Settings). S.Ea (code_told x)) (sym (settings-are w h))

-- The settings in range, part by part.
pub record InRange (s : Settings) : Type 0 where
  pub first : port_good s.first ≡ true
  pub second : port_good s.second ≡ true
  pub datum : outside 0 4 s.datum ≡ 0
  pub zone : signed_wrong 839 true s.zone ≡ 0
  pub gps : outside 0 4294967295 s.gps ≡ 0
  pub glonass : outside 0 16777215 s.glonass ≡ 0
  pub code : outside 0 255 s.code ≡ 0

pub in-range : (s : Settings) → settings_good s ≡ true → InRange s
unfolding settings_good
in-range s e =
    let e1 = and_right (port_good s.first) _ e in
    let e2 = and_right (port_good s.second) _ e1 in
    let e3 = and_right (eqb (outside 0 4 s.datum) 0) _ e2 in
    let e4 = and_right (eqb (signed_wrong 839 true s.zone) 0) _ e3 in
    let e5 = and_right (eqb (outside 0 4294967295 s.gps) 0) _ e4 in
    record {
      first = and_left _ _ e;
      second = and_left _ _ e1;
      datum = eqb-true (outside 0 4 s.datum) 0 (and_left _ _ e2);
      zone = eqb-true (signed_wrong 839 true s.zone) 0 (and_left _ _ e3);
      gps = eqb-true (outside 0 4294967295 s.gps) 0 (and_left _ _ e4);
      glonass = eqb-true (outside 0 16777215 s.glonass) 0 (and_left _ _ e5);
      code = eqb-true (outside 0 255 s.code) 0 (and_right (eqb (outside 0 16777215 s.glonass) 0) _ e5);
    }

range-in : (s : Settings) → InRange s → settings_good s ≡ true
unfolding settings_good
range-in s g = rw (g.first, g.second, g.datum, g.zone, g.gps, g.glonass, g.code)

-- A port whose reply has no fault.
port-in : (n : ℕ) (q : Port) → pirpa_wrong (record { port = n; rate = q.rate; protocol = q.protocol; mask = q.mask }) ≡ 0
    → port_good q ≡ true
unfolding fault_by pirpa_row range_wrong port_good
port-in n q e =
    let z0 = near-zero _ _ _ e in
    let z1 = near-zero _ _ _ z0.1 in
    let z2 = near-zero _ _ _ z1.1 in
    let z3 = near-zero _ _ _ z2.1 in
    rw (z1.0, z2.0, z3.0)

with_in : (n : ℕ) (s : Settings) (q : Port) → InRange s → port_good q ≡ true → InRange (with_port s n q)
with_in zero s q g e = record {
  first = e;
  second = g.second;
  datum = g.datum;
  zone = g.zone;
  gps = g.gps;
  glonass = g.glonass;
  code = g.code;
}
with_in (suc n) s q g e = record {
  first = g.first;
  second = e;
  datum = g.datum;
  zone = g.zone;
  gps = g.gps;
  glonass = g.glonass;
  code = g.code;
}

-- A port that was set has what it was set to.
pub port-set : (n : ℕ) (s : Settings) (q : Port) → port_of (with_port s n q) n ≡ q
port-set zero s q = refl
port-set (suc n) s q = refl

after-port-in : (s : Settings) (p : ℕ) (r : PortAsked) → InRange s → pirpa_wrong (port_told (after_port s p r) (named_port p r)) ≡ 0
    → InRange (after_port s p r)
after-port-in s p r g e = go r.rate.there e
  where
    go : (b : Bool) → pirpa_wrong (port_told (pick b (with_port s (named_port p r) (port_asked r)) s) (named_port p r)) ≡ 0
        → InRange (pick b (with_port s (named_port p r) (port_asked r)) s)
    go true i = with_in (named_port p r) s (port_asked r) g (port-in (named_port p r) (port_asked r)
        (ap (λ (q : Port). pirpa_wrong (record { port = named_port p r; rate = q.rate; protocol = q.protocol; mask = q.mask }))
        (sym (port-set (named_port p r) s (port_asked r))) ∙ i))
    go false i = g

after-datum-in : (s : Settings) (r : DatumAsked) → InRange s → pirta_wrong (datum_told (after_datum s r)) ≡ 0 → InRange (after_datum s r)
unfolding fault_by pirta_row
after-datum-in s r g e = go r.datum.there e
  where
    go : (b : Bool)
        → pirta_wrong
        (datum_told (pick b (record {
          first = s.first;
          second = s.second;
          datum = r.datum.value;
          zone = r.zone.minutes;
          gps = s.gps;
          glonass = s.glonass;
          code = s.code;
        }) s)) ≡ 0
        → InRange
        (pick b (record {
          first = s.first;
          second = s.second;
          datum = r.datum.value;
          zone = r.zone.minutes;
          gps = s.gps;
          glonass = s.glonass;
          code = s.code;
        }) s)
    go true i =
        let z0 = near-zero _ _ _ i in
        let z1 = near-zero _ _ _ z0.1 in
        record { first = g.first; second = g.second; datum = z0.0; zone = z1.0; gps = g.gps; glonass = g.glonass; code = g.code }
    go false i = g

after-masks-in : (s : Settings) (r : MasksAsked) → InRange s → pirsa_wrong (masks_told (after_masks s r)) ≡ 0 → InRange (after_masks s r)
unfolding fault_by pirsa_row
after-masks-in s r g e =
    let z0 = near-zero _ _ _ e in
    let z1 = near-zero _ _ _ z0.1 in
    record { first = g.first; second = g.second; datum = g.datum; zone = g.zone; gps = z0.0; glonass = z1.0; code = g.code }

-- Settings in range stay in range, whatever the line.
no-fault : (fault : Written) (body : List ℕ) (room : ℕ) → (written_of fault body room).no ≡ 0 → fault.no ≡ 0
unfolding written_of
no-fault fault body room e = go (eqb fault.no 0) _ refl e
  where
    go : (b : Bool) (x : Written) → eqb fault.no 0 ≡ b → (pick b x fault).no ≡ 0 → fault.no ≡ 0
    go true x q i = eqb-true fault.no 0 q
    go false x q i = i

kept_in : (s after : Settings) (fault : Written) (body : List ℕ) (room : ℕ) → InRange s → (fault.no ≡ 0 → InRange after)
    → InRange (settings_after s (replies after fault body) room)
kept_in s after fault body room g h = go (eqb (written_of fault body room).no 0) refl
  where
    go : (b : Bool) → eqb (written_of fault body room).no 0 ≡ b → InRange (pick b after s)
    go true q = h (no-fault fault body room (eqb-true (written_of fault body room).no 0 q))
    go false q = g

sentence-in : (s : Settings) (p : ℕ) (x : Sentence) (room : ℕ) → InRange s → InRange (settings_after s (sentence_outcome s p x) room)
sentence-in s p (S.Pr r) room g = kept_in s (after_port s p r) _ _ room g
    (λ h. after-port-in s p r g (Writing.fault-zero (pirpa_wrong (port_told (after_port s p r) (named_port p r))) h))
sentence-in s p (S.Tr r) room g = kept_in s (after_datum s r) _ _ room g
    (λ h. after-datum-in s r g (Writing.fault-zero (pirta_wrong (datum_told (after_datum s r))) h))
sentence-in s p (S.Sr r) room g = kept_in s (after_masks s r) _ _ room g
    (λ h. after-masks-in s r g (Writing.fault-zero (pirsa_wrong (masks_told (after_masks s r))) h))
sentence-in s p S.Er room g = kept_in s s _ _ room g (λ h. g)
sentence-in s p (S.Refused n f) room g = g
sentence-in s p (S.Gga t r) room g = g
sentence-in s p (S.Gll t r) room g = g
sentence-in s p (S.Gsa t r) room g = g
sentence-in s p (S.Gsv t r) room g = g
sentence-in s p (S.Rmc t r) room g = g
sentence-in s p (S.Vtg t r) room g = g
sentence-in s p (S.Zda t r) room g = g
sentence-in s p (S.Pa r) room g = g
sentence-in s p (S.Ta r) room g = g
sentence-in s p (S.Sa r) room g = g
sentence-in s p (S.Ea r) room g = g

outcome-in : (s : Settings) (p : ℕ) (l : List ℕ) (room : ℕ) → InRange s → InRange (settings_after s (outcome_of s p l) room)
unfolding outcome_of
outcome-in s p l room g = go (ltb p 2 && settings_good s) (eqb (port_of s p).protocol 4)
  where
    go : (a b : Bool)
        → InRange (settings_after s (pick a (pick b (sentence_outcome s p (read_line l)) (refuses 10 1 0)) (refuses 5 0 0)) room)
    go true true = sentence-in s p (read_line l) room g
    go true false = g
    go false b = g

pub settings-stay-in-range : (s : Settings) (p : ℕ) (l : List ℕ) {out : List ℕ} {d : Done} {left : List ℕ}
    → Does s (outcome_of s p l) out d left
    → settings_good s ≡ true → settings_good d.settings ≡ true
settings-stay-in-range s p l {out} {d} {left} w g = range-in d.settings (subst (λ (x : Settings). InRange x) (sym w.settings)
    (outcome-in s p l (length out) (in-range s g)))
