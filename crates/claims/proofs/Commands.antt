-- Commands from the contract of the step. Only an answer without a refusal changes a setting, and then the reply was written: so its
-- values,
-- which are those after the command, are in range, and it reads back as the record of them.
use Prim.Native.Nat.{suc, zero, ℕ}
use mathlib.Core.Path.{◌∙◌, ◌≡◌, ap, refl, sym}
use mathlib.Core.List.{List}
use mathlib.Core.Bool.{Bool, false, true}
use native.Mathlib.Omega.{arith}
use lib.Dec.{eqb}
use lib.Count.{ones}
use lib.ListN.{length}
use borrow.Author.Tests.{ne_eqb}
use Rattle.kind_pir_datum.specs.declared.command.DatumAsked.{DatumAsked}
use Rattle.kind_pir_masks.specs.declared.command.MasksAsked.{MasksAsked}
use Rattle.kind_pir_port.specs.declared.command.PortAsked.{PortAsked}
use Rattle.sentence.specs.Sentence as S
use Rattle.frame.specs.declared.Written.{Written}
use Rattle.digits.specs.Pick.{pick}
use Rattle.frame.specs.Written.{fault_at, left_of, written_of}
use Rattle.kind_pir_port.specs.Reply.{pirpa_body, pirpa_wrong}
use Rattle.receiver.specs.declared.Counts.{Counts}
use Rattle.receiver.specs.declared.Done.{Done}
use Rattle.receiver.specs.declared.Port.{Port}
use Rattle.receiver.specs.declared.Settings.{Settings}
use Rattle.receiver.specs.Settings.{counts_of, port_of, settings_good, with_port}
use Rattle.receiver.specs.Command.{after_datum, after_masks, after_port, answer_of, Does, named_port, Outcome, output_after, port_asked, port_told}
use Rattle.receiver.specs.Command.{refuses, replies, sentence_outcome, settings_after}

-- A refused command leaves the settings and every byte of the output; so 8 is decided before anything changes.
refused-settings : (s : Settings) (o : Outcome) (room : ℕ) → ((answer_of o room).no ≡ 0 → ⊥) → settings_after s o room ≡ s
refused-settings s (refuses n k f) room h = refl
refused-settings s (replies after fault body) room h = rw (ne_eqb (written_of fault body room).no 0 h)

pub refused-output : (o : Outcome) (out : List ℕ) → ((answer_of o (length out)).no ≡ 0 → ⊥) → output_after o out ≡ out
unfolding left_of
refused-output (refuses n k f) out h = refl
refused-output (replies after fault body) out h = rw (ne_eqb (written_of fault body (length out)).no 0 h)

module _ {s : Settings} {o : Outcome} {out : List ℕ} {d : Done} {left : List ℕ} (w : Does s o out d left) where
  answered : (d.written.no ≡ 0 → ⊥) → (answer_of o (length out)).no ≡ 0 → ⊥
  answered h e = h (ap (λ (x : Written). x.no) w.answers ∙ e)

  pub refused-leaves-settings : (d.written.no ≡ 0 → ⊥) → d.settings ≡ s
  refused-leaves-settings h = w.settings ∙ refused-settings s o (length out) (answered h)

  pub refused-leaves-output : (d.written.no ≡ 0 → ⊥) → left ≡ out
  refused-leaves-output h = w.leaves ∙ refused-output o out (answered h)

-- Any two results that a command's contract permits are equal.
pub one-command : (s : Settings) (o : Outcome) (out : List ℕ) (a b : Done) (l m : List ℕ) → Does s o out a l → Does s o out b m
    → (a.written ≡ b.written) × ((a.settings ≡ b.settings) × (l ≡ m))
one-command s o out a b l m v w = (v.answers ∙ sym w.answers, (v.settings ∙ sym w.settings, v.leaves ∙ sym w.leaves))

-- A question leaves the settings: a port's without a rate, datum and zone without a datum, both masks missing, and the self-test.
pick_same : {A : Type 0} (b : Bool) (x : A) → pick b x x ≡ x
pick_same true x = refl
pick_same false x = refl

replied : (s after : Settings) (fault : Written) (body : List ℕ) (room : ℕ) → after ≡ s
    → settings_after s (replies after fault body) room ≡ s
replied s after fault body room e = ap (λ (x : Settings). pick (eqb (written_of fault body room).no 0) x s) e
    ∙ pick_same (eqb (written_of fault body room).no 0) s

pub port-question : (s : Settings) (p : ℕ) (r : PortAsked) (room : ℕ) → r.rate.there ≡ false
    → settings_after s (sentence_outcome s p (S.Pr r)) room ≡ s
port-question s p r room e = replied s (after_port s p r) _ _ room (ap (λ (b : Bool). pick b (with_port s (named_port p r) (port_asked r)) s) e)

pub datum-question : (s : Settings) (p : ℕ) (r : DatumAsked) (room : ℕ) → r.datum.there ≡ false
    → settings_after s (sentence_outcome s p (S.Tr r)) room ≡ s
datum-question s p r room e = replied s (after_datum s r) _ _ room (rw e)

pub masks-question : (s : Settings) (p : ℕ) (r : MasksAsked) (room : ℕ) → r.gps.there ≡ false → r.glonass.there ≡ false
    → settings_after s (sentence_outcome s p (S.Sr r)) room ≡ s
masks-question s p r room e f = replied s (after_masks s r) _ _ room (rw (e, f))

pub test-changes-nothing : (s : Settings) (p room : ℕ) → settings_after s (sentence_outcome s p S.Er) room ≡ s
test-changes-nothing s p room = replied s s _ _ room refl

-- Only the named port changes: the other one and every other setting stay.
pub record SameButPort (n : ℕ) (s t : Settings) : Type 0 where
  pub other : (m : ℕ) → (eqb m 0 ≡ eqb n 0 → ⊥) → port_of t m ≡ port_of s m
  pub datum : t.datum ≡ s.datum
  pub zone : t.zone ≡ s.zone
  pub gps : t.gps ≡ s.gps
  pub glonass : t.glonass ≡ s.glonass
  pub code : t.code ≡ s.code

pub same-all : (n : ℕ) (s : Settings) → SameButPort n s s
same-all n s = record { other = λ m h. refl; datum = refl; zone = refl; gps = refl; glonass = refl; code = refl }

same-with : (n : ℕ) (s : Settings) (p : Port) → SameButPort n s (with_port s n p)
same-with zero s p = record { other = zero-other; datum = refl; zone = refl; gps = refl; glonass = refl; code = refl }
  where
    zero-other : (m : ℕ) → (eqb m 0 ≡ eqb 0 0 → ⊥) → port_of (with_port s 0 p) m ≡ port_of s m
    zero-other zero h = absurd (h refl)
    zero-other (suc m) h = refl
same-with (suc n) s p = record { other = suc-other; datum = refl; zone = refl; gps = refl; glonass = refl; code = refl }
  where
    suc-other : (m : ℕ) → (eqb m 0 ≡ eqb (suc n) 0 → ⊥) → port_of (with_port s (suc n) p) m ≡ port_of s m
    suc-other zero h = refl
    suc-other (suc m) h = absurd (h (ne_eqb (suc m) 0 (λ z. omega arith) ∙ sym (ne_eqb (suc n) 0 (λ z. omega arith))))

pub only-the-named-port : (s : Settings) (p : ℕ) (r : PortAsked) (room : ℕ)
    → SameButPort (named_port p r) s (settings_after s (sentence_outcome s p (S.Pr r)) room)
only-the-named-port s p r room = go (eqb (written_of (fault_at (pirpa_wrong (port_told (after_port s p r) (named_port p r))))
    (pirpa_body (port_told (after_port s p r) (named_port p r))) room).no 0) r.rate.there
  where
    go : (b there : Bool) → SameButPort (named_port p r) s (pick b (pick there (with_port s (named_port p r) (port_asked r)) s) s)
    go true true = same-with (named_port p r) s (port_asked r)
    go true false = same-all (named_port p r) s
    go false there = same-all (named_port p r) s

-- The number of satellites that each mask allows is the ones of its bits.
pub counts-are-ones : (s : Settings) (c : Counts) → c ≡ counts_of s → settings_good s ≡ true → (c.no ≡ 0)
    × ((c.gps ≡ ones s.gps) × (c.glonass ≡ ones s.glonass))
unfolding counts_of
counts-are-ones s c e g =
    let f : c ≡ record { no = 0; line = 0; field = 0; gps = ones s.gps; glonass = ones s.glonass } = e ∙ rw g in
    (ap (λ (x : Counts). x.no) f, (ap (λ (x : Counts). x.gps) f, ap (λ (x : Counts). x.glonass) f))
