-- The four commands. Each hands back the settings as a whole: new where the reply could be written, else the old. The reply has the
-- request's fields with the values after the command, all filled.
use Rattle.std.specs.Prelude.{ℕ, ◌≡◌, ◌&&◌, cond, List, eqb, ltb, length}
use Rattle.kind_pir_code.specs.declared.reply.CodeTold.{CodeTold}
use Rattle.kind_pir_datum.specs.declared.command.DatumAsked.{DatumAsked}
use Rattle.kind_pir_datum.specs.declared.reply.DatumTold.{DatumTold}
use Rattle.kind_pir_masks.specs.declared.command.MasksAsked.{MasksAsked}
use Rattle.kind_pir_masks.specs.declared.reply.MasksTold.{MasksTold}
use Rattle.kind_pir_port.specs.declared.command.PortAsked.{PortAsked}
use Rattle.kind_pir_port.specs.declared.reply.PortTold.{PortTold}
use Rattle.sentence.specs.Sentence.{Sentence}
use Rattle.sentence.specs.Sentence as S
use Rattle.sentence.specs.Lines.{read_line}
use Rattle.frame.specs.declared.Written.{Written}
use Rattle.digits.specs.Pick.{pick}
use Rattle.frame.specs.Written.{fault_at, left_of, refused, written_of}
use Rattle.kind_pir_code.specs.Reply.{pirea_body, pirea_wrong}
use Rattle.kind_pir_port.specs.Reply.{pirpa_body, pirpa_wrong}
use Rattle.kind_pir_masks.specs.Reply.{pirsa_body, pirsa_wrong}
use Rattle.kind_pir_datum.specs.Reply.{pirta_body, pirta_wrong}
use Rattle.receiver.specs.declared.Done.{Done}
use Rattle.receiver.specs.declared.Port.{Port}
use Rattle.receiver.specs.declared.Settings.{Settings}
use Rattle.receiver.specs.Settings.{port_of, settings_good, with_port}

-- PIRPR names port 0 or 1, or, empty, the port it arrived on. An empty rate is a question.
abbrev pub named_port : ℕ → PortAsked → ℕ
named_port arrival r = cond r.port.there r.port.value arrival

abbrev pub port_asked : PortAsked → Port
port_asked r = record { rate = r.rate.value; protocol = r.protocol.value; mask = r.mask.value }

abbrev pub after_port : Settings → ℕ → PortAsked → Settings
after_port s arrival r = pick r.rate.there (with_port s (named_port arrival r) (port_asked r)) s

-- PIRTR: an empty datum is a question.
abbrev pub after_datum : Settings → DatumAsked → Settings
after_datum s r =
    pick r.datum.there
    (record {
      first = s.first;
      second = s.second;
      datum = r.datum.value;
      zone = r.zone.minutes;
      gps = s.gps;
      glonass = s.glonass;
      code = s.code;
    })
    s

-- PIRSR: an empty mask is no change.
abbrev pub after_masks : Settings → MasksAsked → Settings
after_masks s r =
    record {
      first = s.first;
      second = s.second;
      datum = s.datum;
      zone = s.zone;
      gps = cond r.gps.there r.gps.value s.gps;
      glonass = cond r.glonass.there r.glonass.value s.glonass;
      code = s.code;
    }

-- What the replies tell of the settings.
abbrev pub port_told : Settings → ℕ → PortTold
port_told s n = record { port = n; rate = (port_of s n).rate; protocol = (port_of s n).protocol; mask = (port_of s n).mask }

abbrev pub datum_told : Settings → DatumTold
datum_told s = record { datum = s.datum; zone = s.zone }

abbrev pub masks_told : Settings → MasksTold
masks_told s = record { gps = s.gps; glonass = s.glonass }

abbrev pub code_told : Settings → CodeTold
code_told s = record { code = s.code }

-- What a command comes to before the room is looked at: a refusal, or the settings after it and its reply, by fault and body.
pub data Outcome : Type 0 where
  refuses : ℕ → ℕ → ℕ → Outcome
  replies : Settings → Written → List ℕ → Outcome

abbrev pub port_reply : Settings → ℕ → Outcome
port_reply after n = replies after (fault_at (pirpa_wrong (port_told after n))) (pirpa_body (port_told after n))

abbrev pub datum_reply : Settings → Outcome
datum_reply after = replies after (fault_at (pirta_wrong (datum_told after))) (pirta_body (datum_told after))

abbrev pub masks_reply : Settings → Outcome
masks_reply after = replies after (fault_at (pirsa_wrong (masks_told after))) (pirsa_body (masks_told after))

abbrev pub code_reply : Settings → Outcome
code_reply after = replies after (fault_at (pirea_wrong (code_told after))) (pirea_body (code_told after))

-- By the sentence: its own 1 to 5, then 9 for what is not a command.
abbrev pub sentence_outcome : Settings → ℕ → Sentence → Outcome
sentence_outcome s arrival (S.Refused n f) = refuses n 1 f
sentence_outcome s arrival (S.Pr r) = port_reply (after_port s arrival r) (named_port arrival r)
sentence_outcome s arrival (S.Tr r) = datum_reply (after_datum s r)
sentence_outcome s arrival (S.Sr r) = masks_reply (after_masks s r)
sentence_outcome s arrival S.Er = code_reply s
sentence_outcome s arrival (S.Gga t r) = refuses 9 1 0
sentence_outcome s arrival (S.Gll t r) = refuses 9 1 0
sentence_outcome s arrival (S.Gsa t r) = refuses 9 1 0
sentence_outcome s arrival (S.Gsv t r) = refuses 9 1 0
sentence_outcome s arrival (S.Rmc t r) = refuses 9 1 0
sentence_outcome s arrival (S.Vtg t r) = refuses 9 1 0
sentence_outcome s arrival (S.Zda t r) = refuses 9 1 0
sentence_outcome s arrival (S.Pa r) = refuses 9 1 0
sentence_outcome s arrival (S.Ta r) = refuses 9 1 0
sentence_outcome s arrival (S.Sa r) = refuses 9 1 0
sentence_outcome s arrival (S.Ea r) = refuses 9 1 0

-- In order: 5 with line 0 and field 0 if the arrival port is not 0 or 1 or a setting is out of range; then 10, before the line is looked
-- at.
unfoldable pub outcome_of : Settings → ℕ → List ℕ → Outcome
outcome_of s arrival line =
    pick (ltb arrival 2 && settings_good s)
    (pick (eqb (port_of s arrival).protocol 4) (sentence_outcome s arrival (read_line line)) (refuses 10 1 0))
    (refuses 5 0 0)

-- Then 8: the answer in an output with so much room, the settings after it, and what is left of the output.
abbrev pub answer_of : Outcome → ℕ → Written
answer_of (refuses n k f) room = refused n k f
answer_of (replies after fault body) room = written_of fault body room

abbrev pub settings_after : Settings → Outcome → ℕ → Settings
settings_after s (refuses n k f) room = s
settings_after s (replies after fault body) room = pick (eqb (written_of fault body room).no 0) after s

abbrev pub output_after : Outcome → List ℕ → List ℕ
output_after (refuses n k f) out = out
output_after (replies after fault body) out = left_of fault body out

-- All at once: what a command answers, the settings that it hands back, and what it leaves.
pub record Does (s : Settings) (o : Outcome) (out : List ℕ) (done : Done) (left : List ℕ) : Type 0 where
  pub answers : done.written ≡ answer_of o (length out)
  pub settings : done.settings ≡ settings_after s o (length out)
  pub leaves : left ≡ output_after o out

-- The new settings where the reply was written, else the old.
abbrev pub handed_over : Written → Settings → Settings → Done
handed_over w old new = record { written = w; settings = pick (eqb w.no 0) new old }
