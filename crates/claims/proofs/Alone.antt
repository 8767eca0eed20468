-- What each command changes, of a line and whatever the settings, the port and the room: PIRPR the named port alone, PIRTR datum and zone
-- alone, PIRSR the masks alone, PIRER nothing. The step's definition is one over the line.
use Prim.Native.Nat.{ℕ}
use mathlib.Core.Path.{◌≡◌, refl, subst, sym}
use mathlib.Core.Bool.{◌&&◌, Bool, false, true}
use mathlib.Core.List.{List}
use lib.Dec.{eqb, ltb}
use Rattle.digits.specs.Pick.{pick}
use Rattle.frame.specs.Written.{written_of}
use Rattle.frame.specs.declared.Written.{Written}
use Rattle.kind_pir_datum.specs.declared.command.DatumAsked.{DatumAsked}
use Rattle.kind_pir_masks.specs.declared.command.MasksAsked.{MasksAsked}
use Rattle.kind_pir_port.specs.declared.command.PortAsked.{PortAsked}
use Rattle.receiver.specs.Command.{after_datum, after_masks, named_port, outcome_of, refuses, replies, sentence_outcome, settings_after}
use Rattle.receiver.specs.Settings.{port_of, settings_good}
use Rattle.receiver.specs.declared.Settings.{Settings}
use Rattle.sentence.specs.Lines.{read_line}
use Rattle.sentence.specs.Sentence as S
use Rattle.sentence.specs.Sentence.{Sentence}
use Rattle.claims.proofs.Commands.{only-the-named-port, same-all, SameButPort}

-- All but datum and zone; all but the masks.
pub record SameButDatum (s t : Settings) : Type 0 where
  pub first : t.first ≡ s.first
  pub second : t.second ≡ s.second
  pub gps : t.gps ≡ s.gps
  pub glonass : t.glonass ≡ s.glonass
  pub code : t.code ≡ s.code

pub record SameButMasks (s t : Settings) : Type 0 where
  pub first : t.first ≡ s.first
  pub second : t.second ≡ s.second
  pub datum : t.datum ≡ s.datum
  pub zone : t.zone ≡ s.zone
  pub code : t.code ≡ s.code

module _ (s : Settings) (p : ℕ) (l : List ℕ) (room : ℕ) (P : Settings → Type 0) (same : P s) where
  -- The settings after a reply are those of the command, or the old ones where the reply was not written.
  replied : (after : Settings) (fault : Written) (body : List ℕ) → P after → P (settings_after s (replies after fault body) room)
  replied after fault body q = go (eqb (written_of fault body room).no 0)
    where
      go : (b : Bool) → P (pick b after s)
      go true = q
      go false = same

  -- What holds of the old settings, and of those after the line's sentence, holds of those after the step.
  stepped : (x : Sentence) → read_line l ≡ x → P (settings_after s (sentence_outcome s p x) room) → P (settings_after s (outcome_of s p l) room)
  unfolding outcome_of
  stepped x e q = go (ltb p 2 && settings_good s) (eqb (port_of s p).protocol 4)
    where
      go : (a b : Bool)
          → P (settings_after s (pick a (pick b (sentence_outcome s p (read_line l)) (refuses 10 1 0)) (refuses 5 0 0)) room)
      go true true = subst (λ (y : Sentence). P (settings_after s (sentence_outcome s p y) room)) (sym e) q
      go true false = same
      go false b = same

-- PIRTR.
datum-same : (s : Settings) → SameButDatum s s
datum-same s = record { first = refl; second = refl; gps = refl; glonass = refl; code = refl }

datum-after : (s : Settings) (r : DatumAsked) → SameButDatum s (after_datum s r)
datum-after s r = go r.datum.there
  where
    go : (b : Bool) → SameButDatum s (pick b (record {
      first = s.first;
      second = s.second;
      datum = r.datum.value;
      zone = r.zone.minutes;
      gps = s.gps;
      glonass = s.glonass;
      code = s.code;
    }) s)
    go true = record { first = refl; second = refl; gps = refl; glonass = refl; code = refl }
    go false = datum-same s

pub datum-alone : (s : Settings) (p : ℕ) (l : List ℕ) (room : ℕ) (r : DatumAsked) → read_line l ≡ S.Tr r
    → SameButDatum s (settings_after s (outcome_of s p l) room)
datum-alone s p l room r e =
    stepped s p l room (SameButDatum s) (datum-same s) (S.Tr r) e
    (replied s p l room (SameButDatum s) (datum-same s) (after_datum s r) _ _ (datum-after s r))

-- PIRSR.
masks-same : (s : Settings) → SameButMasks s s
masks-same s = record { first = refl; second = refl; datum = refl; zone = refl; code = refl }

pub masks-alone : (s : Settings) (p : ℕ) (l : List ℕ) (room : ℕ) (r : MasksAsked) → read_line l ≡ S.Sr r
    → SameButMasks s (settings_after s (outcome_of s p l) room)
masks-alone s p l room r e =
    stepped s p l room (SameButMasks s) (masks-same s) (S.Sr r) e (replied s p l room (SameButMasks s) (masks-same s) (after_masks s r) _ _
    (record { first = refl; second = refl; datum = refl; zone = refl; code = refl }))

-- PIRPR.
pub port-alone : (s : Settings) (p : ℕ) (l : List ℕ) (room : ℕ) (r : PortAsked) → read_line l ≡ S.Pr r
    → SameButPort (named_port p r) s (settings_after s (outcome_of s p l) room)
port-alone s p l room r e =
    stepped s p l room (SameButPort (named_port p r) s) (same-all (named_port p r) s) (S.Pr r) e (only-the-named-port s p r room)

-- PIRER.
pub test-alters-nothing : (s : Settings) (p : ℕ) (l : List ℕ) (room : ℕ) → read_line l ≡ S.Er → settings_after s (outcome_of s p l) room ≡ s
test-alters-nothing s p l room e =
    stepped s p l room (λ (t : Settings). t ≡ s) refl S.Er e (replied s p l room (λ (t : Settings). t ≡ s) refl s _ _ refl)

-- On a port whose protocol is not 4 a command is refused with 10 before its line is looked at: whatever the line is.
pub ten-before-the-line : (s : Settings) (p : ℕ) (l : List ℕ) → (ltb p 2 && settings_good s) ≡ true → eqb (port_of s p).protocol 4 ≡ false
    → outcome_of s p l ≡ refuses 10 1 0
unfolding outcome_of
ten-before-the-line s p l good other = rw (good, other)
