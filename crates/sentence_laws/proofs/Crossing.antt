-- What the line reader gives crosses to a host and back unchanged: each of its records is in range, so that 32 bits hold its values.
use Prim.Native.Nat.{◌-◌, ℕ}
use mathlib.Core.Path.{◌≡◌, refl}
use mathlib.Core.Bool.{Bool, false, true}
use mathlib.Core.List.{◌++◌, List}
use lib.Dec.{eqb}
use lib.IntN.{ℤ}
use lib.ListN.{length}
use Rattle.line.specs.Line.{body_of, line_refusal}
use Rattle.address.specs.declared.Address.{Address}
use Rattle.address.specs.declared.Address.TheVariants.{Maker, Standard, Unknown}
use Rattle.address.specs.declared.Kind.{Kind}
use Rattle.address.specs.declared.Kind.TheVariants as K
use Rattle.address.specs.declared.Pir.{Pir}
use Rattle.address.specs.declared.Pir.TheVariants as P
use Rattle.address.specs.declared.Talker.{Talker}
use Rattle.address.specs.Address.{address_of}
use Rattle.fields.specs.Fields.{fields_of}
use Rattle.fields.specs.Places.{the_fields}
use Rattle.digits.specs.Pick.{pick}
use Rattle.sentence.specs.Sentence.{Sentence}
use Rattle.sentence.specs.Sentence as S
use Rattle.sentence.specs.Lines.{addressed, maker_of, read_body, read_line, standard_of}
use Rattle.sentence_laws.proofs.Gsa as TGsa
use Rattle.sentence.specs.Numbers.{kind_of, numbers_of}
use Rattle.sentence.specs.Back.{record_at}
use Rattle.sentence_laws.proofs.FittedKinds.{gga-fits, gll-fits, gsa-fits, gsv-fits, pirea-fits, pirpa-fits, pirpr-fits, pirsa-fits}
use Rattle.sentence_laws.proofs.FittedKinds.{pirsr-fits, pirta-fits, pirtr-fits, rmc-fits, vtg-fits, zda-fits}
use Rattle.sentence_laws.proofs.NumbersBack.{back, Held}
use Rattle.sentence_laws.proofs.Standard as N
use Rattle.sentence_laws.proofs.Maker as C
use Rattle.sentence_laws.proofs.Gsv as TGsv

-- A record that was read is the one that its numbers say, whatever numbers come after; a refused line has kind 0 and no record.
abbrev pub Crosses : Sentence → Type 0
Crosses s = (kind_of s ≡ 0 → ⊥) → (rest : List ℤ) → record_at (kind_of s) (numbers_of s ++ rest) ≡ s

refused-crosses : (n f : ℕ) → Crosses (S.Refused n f)
refused-crosses n f h rest = absurd (h refl)

module _ (n : ℕ) (field : ℕ → List ℕ) where
  standard-crosses : (t : Talker) (k : Kind) → Crosses (standard_of t k n field)
  unfolding Held
  standard-crosses t K.Gga = (N.gga).write_read t n field Crosses refused-crosses (λ r c w u h rest. back (S.Gga t r) rest (gga-fits r w))
  standard-crosses t K.Gll = (N.gll).write_read t n field Crosses refused-crosses (λ r c w u h rest. back (S.Gll t r) rest (gll-fits r w))
  standard-crosses t K.Gsa = TGsa.write_read t n field Crosses refused-crosses
      (λ r e c w u h rest. back (S.Gsa t r) rest (gsa-fits r e w))
  standard-crosses t K.Gsv = TGsv.write_read t field Crosses refused-crosses (λ r e g h rest. back (S.Gsv t r) rest (gsv-fits r e g)) n
  standard-crosses t K.Rmc = (N.rmc).write_read t n field Crosses refused-crosses (λ r c w u h rest. back (S.Rmc t r) rest (rmc-fits r w))
  standard-crosses t K.Vtg = (N.vtg).write_read t n field Crosses refused-crosses (λ r c w u h rest. back (S.Vtg t r) rest (vtg-fits r w))
  standard-crosses t K.Zda = (N.zda).write_read t n field Crosses refused-crosses (λ r c w u h rest. back (S.Zda t r) rest (zda-fits r w))

  maker-crosses : (k : Pir) → Crosses (maker_of k n field)
  unfolding Held
  maker-crosses P.Pr = (C.pirpr).write_read n field Crosses refused-crosses (λ r c w h rest. back (S.Pr r) rest (pirpr-fits r w))
  maker-crosses P.Tr = (C.pirtr).write_read n field Crosses refused-crosses (λ r c w h rest. back (S.Tr r) rest (pirtr-fits r w))
  maker-crosses P.Sr = (C.pirsr).write_read n field Crosses refused-crosses (λ r c w h rest. back (S.Sr r) rest (pirsr-fits r w))
  maker-crosses P.Er = (C.pirer).write_read n field Crosses refused-crosses (λ v c w h rest. back S.Er rest tt)
  maker-crosses P.Pa = (C.pirpa).write_read n field Crosses refused-crosses (λ r c w h rest. back (S.Pa r) rest (pirpa-fits r w))
  maker-crosses P.Ta = (C.pirta).write_read n field Crosses refused-crosses (λ r c w h rest. back (S.Ta r) rest (pirta-fits r w))
  maker-crosses P.Sa = (C.pirsa).write_read n field Crosses refused-crosses (λ r c w h rest. back (S.Sa r) rest (pirsa-fits r w))
  maker-crosses P.Ea = (C.pirea).write_read n field Crosses refused-crosses (λ r c w h rest. back (S.Ea r) rest (pirea-fits r w))

  addressed-crosses : (a : Address) → Crosses (addressed a n field)
  addressed-crosses (Standard t k) = standard-crosses t k
  addressed-crosses (Maker k) = maker-crosses k
  addressed-crosses Unknown = refused-crosses 3 0

body-crosses : (body : List ℕ) → Crosses (read_body body)
unfolding read_body
body-crosses body = addressed-crosses (length (fields_of body) - 1) (the_fields body) (address_of body)

pub read-crosses : (l : List ℕ) → Crosses (read_line l)
unfolding read_line
read-crosses l = go (eqb (line_refusal l) 0)
  where
    go : (b : Bool) → Crosses (pick b (read_body (body_of l)) (S.Refused (line_refusal l) 0))
    go true = body-crosses (body_of l)
    go false = refused-crosses (line_refusal l) 0
