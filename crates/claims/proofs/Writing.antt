-- The claims about writing, each under a plain sentence. `Writes` is what every writer's contract says: what it answers, and every byte
-- that it leaves.
use Prim.Native.Nat.{◌≤◌, ℕ}
use mathlib.Core.Path.{◌∙◌, ◌≡◌, ap, refl, sym}
use mathlib.Core.List.{◌++◌, List}
use mathlib.Core.Bool.{Bool, false, true}
use native.Mathlib.Omega.{arith}
use lib.Dec.{eqb, ltb}
use lib.ListN.{drop, length, take}
use lib.Seq.{drop_at, take_at}
use borrow.Author.Tests.{eqb-false, eqb-true, ltb-false}
use Rattle.line.specs.Line.{as_line, body_of, line_refusal}
use Rattle.address.specs.declared.Talker.{Talker}
use Rattle.digits.specs.Pick.{pick}
use Rattle.sentence.specs.Sentence as S
use Rattle.sentence.specs.Lines.{read_body, read_line, refusal_of}
use Rattle.frame.specs.declared.Written.{Written}
use Rattle.frame.specs.Written.{fault_at, left_of, refused, Writes, written_of, wrote}
use Rattle.frame.proofs.Sealing.{line-length}
use Rattle.bodies.specs.Bodies.{body_fault, is_body}
use Rattle.bodies.proofs.Laws as Bodies
use Rattle.kind_gsa.specs.Row.{gsa_body, gsa_wrong}
use Rattle.kind_gsv.specs.Writing.{gsv_body, gsv_fault}
use Rattle.sentence_laws.proofs.Gsa as TGsa
use Rattle.sentence_laws.proofs.Gsv as TGsv
use Rattle.claims.proofs.Rewriting as Rewriting
use Rattle.kind_gga.specs.declared.Gga.{Gga}
use Rattle.kind_gga.specs.Row.{gga_body, gga_wrong}
use Rattle.kind_gll.specs.declared.Gll.{Gll}
use Rattle.kind_gll.specs.Row.{gll_body, gll_wrong}
use Rattle.kind_rmc.specs.declared.Rmc.{Rmc}
use Rattle.kind_rmc.specs.Row.{rmc_body, rmc_wrong}
use Rattle.kind_vtg.specs.declared.Vtg.{Vtg}
use Rattle.kind_vtg.specs.Row.{vtg_body, vtg_wrong}
use Rattle.kind_zda.specs.declared.Zda.{Zda}
use Rattle.kind_zda.specs.Row.{zda_body, zda_wrong}
use Rattle.kind_gsa.specs.declared.Gsa.{Gsa}
use Rattle.kind_gsv.specs.declared.Gsv.{Gsv}
use Rattle.kind_pir_port.specs.declared.command.PortAsked.{PortAsked}
use Rattle.kind_pir_port.specs.Command.{pirpr_body, pirpr_wrong}
use Rattle.kind_pir_datum.specs.declared.command.DatumAsked.{DatumAsked}
use Rattle.kind_pir_datum.specs.Command.{pirtr_body, pirtr_wrong}
use Rattle.kind_pir_masks.specs.declared.command.MasksAsked.{MasksAsked}
use Rattle.kind_pir_masks.specs.Command.{pirsr_body, pirsr_wrong}
use Rattle.kind_pir_port.specs.declared.reply.PortTold.{PortTold}
use Rattle.kind_pir_port.specs.Reply.{pirpa_body, pirpa_wrong}
use Rattle.kind_pir_datum.specs.declared.reply.DatumTold.{DatumTold}
use Rattle.kind_pir_datum.specs.Reply.{pirta_body, pirta_wrong}
use Rattle.kind_pir_masks.specs.declared.reply.MasksTold.{MasksTold}
use Rattle.kind_pir_masks.specs.Reply.{pirsa_body, pirsa_wrong}
use Rattle.kind_pir_code.specs.declared.reply.CodeTold.{CodeTold}
use Rattle.kind_pir_code.specs.Reply.{pirea_body, pirea_wrong}
use Rattle.kind_pir_code.specs.Command.{pirer_body}
use Rattle.sentence_laws.proofs.Standard as N
use Rattle.sentence_laws.proofs.Maker as C
use Rattle.kind_gsv.proofs.GoodLaws.{good-is}

module _ {fault : Written} {body out : List ℕ} {answer : Written} {left : List ℕ} (w : Writes fault body out answer left) where
  -- A refusal leaves every byte of the output.
  pub refusal-leaves : (answer.no ≡ 0 → ⊥) → left ≡ out
  unfolding left_of
  refusal-leaves h = w.leaves ∙ go (eqb (written_of fault body (length out)).no 0) refl
    where
      go : (t : Bool) → eqb (written_of fault body (length out)).no 0 ≡ t
          → pick t (as_line body ++ drop (length (as_line body)) out) out ≡ out
      go true e = absurd (h (ap (λ (x : Written). x.no) w.answers ∙ eqb-true (written_of fault body (length out)).no 0 e))
      go false e = refl

  -- What a writer that answers a length has found: a record without a fault, a line of at most 82 bytes, and room for it.
  pub record Done : Type 0 where
    pub good : fault.no ≡ 0
    pub most : length (as_line body) ≤ 82
    pub room : length (as_line body) ≤ length out
    pub long : answer.length ≡ length (as_line body)
    pub bytes : left ≡ as_line body ++ drop (length (as_line body)) out

  pub success : answer.no ≡ 0 → Done
  unfolding written_of left_of
  success h = go (eqb fault.no 0) (ltb 82 (length (as_line body))) (ltb (length out) (length (as_line body))) refl refl refl
      w.answers w.leaves
    where
      go : (a b c : Bool) → eqb fault.no 0 ≡ a → ltb 82 (length (as_line body)) ≡ b → ltb (length out) (length (as_line body)) ≡ c
          → answer ≡ pick a (pick b (refused 1 1 0) (pick c (refused 8 1 0) (wrote (length (as_line body))))) fault
          → left ≡ pick (eqb (pick a (pick b (refused 1 1 0) (pick c (refused 8 1 0) (wrote (length (as_line body))))) fault).no 0)
          (as_line body ++ drop (length (as_line body)) out) out
          → Done
      go false b c p q s i j = absurd (eqb-false fault.no 0 p (sym (ap (λ (x : Written). x.no) i) ∙ h))
      go true true c p q s i j = let z : ◌≡◌ {A = ℕ} 1 0 = sym (ap (λ (x : Written). x.no) i) ∙ h in let y : ⊥ = omega (arith, z) in
          absurd y
      go true false true p q s i j = let z : ◌≡◌ {A = ℕ} 8 0 = sym (ap (λ (x : Written). x.no) i) ∙ h in
          let y : ⊥ = omega (arith, z) in absurd y
      go true false false p q s i j =
          record {
            good = eqb-true fault.no 0 p;
            most = ltb-false 82 (length (as_line body)) q;
            room = ltb-false (length out) (length (as_line body)) s;
            long = ap (λ (x : Written). x.length) i;
            bytes = j;
          }

  -- On success the first bytes of the output are the line, and the bytes past it stay.
  pub line-written : answer.no ≡ 0 → take answer.length left ≡ as_line body
  line-written h = let d = success h in
      rw (d.long, d.bytes) (take_at (as_line body) (drop (length (as_line body)) out) (length (as_line body)) refl)

  pub rest-stays : answer.no ≡ 0 → drop answer.length left ≡ drop answer.length out
  rest-stays h = let d = success h in
      rw (d.long, d.bytes) (drop_at (as_line body) (drop (length (as_line body)) out) (length (as_line body)) refl)

short : (body : List ℕ) → length (as_line body) ≤ 82 → length body ≤ 76
short body h = omega (arith, line-length body, h)

pub fault-zero : (w : ℕ) → (fault_at w).no ≡ 0 → w ≡ 0
unfolding fault_at
fault-zero w e = go (eqb w 0) refl e
  where
    go : (t : Bool) → eqb w 0 ≡ t → (pick t (wrote 0) (refused 5 1 w)).no ≡ 0 → w ≡ 0
    go true q i = eqb-true w 0 q
    go false q i = let z : ⊥ = omega (arith, i) in absurd z

-- A line that reads passes the line rule, so 1 and 2 never come from our own writers.
pub read-passes : (l : List ℕ) → (refusal_of (read_line l)).no ≡ 0 → line_refusal l ≡ 0
unfolding read_line
read-passes l e = go (eqb (line_refusal l) 0) refl e
  where
    go : (t : Bool) → eqb (line_refusal l) 0 ≡ t
        → (refusal_of (pick t (read_body (body_of l)) (S.Refused (line_refusal l) 0))).no ≡ 0 → line_refusal l ≡ 0
    go true q i = eqb-true (line_refusal l) 0 q
    go false q i = i

-- What we write reads back as the same record, and talker: for each writer, where it answers a length, the bytes that it wrote read as the
-- record that it was given.
pub gga-back : (t : Talker) (r : Gga) {out left : List ℕ} {answer : Written} → Writes (fault_at (gga_wrong r)) (gga_body t r) out answer left
    → answer.no ≡ 0 → read_line (take answer.length left) ≡ S.Gga t r
gga-back t r w h = let d = success w h in
    rw (line-written w h) ((N.gga).read-write t r (fault-zero (gga_wrong r) d.good) (short (gga_body t r) d.most))

pub gll-back : (t : Talker) (r : Gll) {out left : List ℕ} {answer : Written} → Writes (fault_at (gll_wrong r)) (gll_body t r) out answer left
    → answer.no ≡ 0 → read_line (take answer.length left) ≡ S.Gll t r
gll-back t r w h = let d = success w h in rw (line-written w h) (let good = fault-zero (gll_wrong r) d.good in
    (N.gll).read-write t r good (N.gll-fits t r good))

pub rmc-back : (t : Talker) (r : Rmc) {out left : List ℕ} {answer : Written} → Writes (fault_at (rmc_wrong r)) (rmc_body t r) out answer left
    → answer.no ≡ 0 → read_line (take answer.length left) ≡ S.Rmc t r
rmc-back t r w h = let d = success w h in
    rw (line-written w h) ((N.rmc).read-write t r (fault-zero (rmc_wrong r) d.good) (short (rmc_body t r) d.most))

pub vtg-back : (t : Talker) (r : Vtg) {out left : List ℕ} {answer : Written} → Writes (fault_at (vtg_wrong r)) (vtg_body t r) out answer left
    → answer.no ≡ 0 → read_line (take answer.length left) ≡ S.Vtg t r
vtg-back t r w h = let d = success w h in rw (line-written w h) (let good = fault-zero (vtg_wrong r) d.good in
    (N.vtg).read-write t r good (N.vtg-fits t r good))

pub zda-back : (t : Talker) (r : Zda) {out left : List ℕ} {answer : Written} → Writes (fault_at (zda_wrong r)) (zda_body t r) out answer left
    → answer.no ≡ 0 → read_line (take answer.length left) ≡ S.Zda t r
zda-back t r w h = let d = success w h in rw (line-written w h) (let good = fault-zero (zda_wrong r) d.good in
    (N.zda).read-write t r good (N.zda-fits t r good))

pub gsa-back : (t : Talker) (r : Gsa) → length r.satellites ≡ 12 → {out left : List ℕ} {answer : Written}
    → Writes (fault_at (gsa_wrong r)) (gsa_body t r) out answer left
    → answer.no ≡ 0 → read_line (take answer.length left) ≡ S.Gsa t r
gsa-back t r n w h = let d = success w h in
    rw (line-written w h) (TGsa.read-write t r n (fault-zero (gsa_wrong r) d.good) (short (gsa_body t r) d.most))

pub gsv-back : (t : Talker) (r : Gsv) → length r.entries ≡ 4 → {out left : List ℕ} {answer : Written}
    → Writes (gsv_fault r) (gsv_body t r) out answer left
    → answer.no ≡ 0 → read_line (take answer.length left) ≡ S.Gsv t r
gsv-back t r n w h = let d = success w h in rw (line-written w h) (TGsv.read-write t r n (good-is r d.good))

pub pirpr-back : (r : PortAsked) {out left : List ℕ} {answer : Written} → Writes (fault_at (pirpr_wrong r)) (pirpr_body r) out answer left
    → answer.no ≡ 0 → read_line (take answer.length left) ≡ S.Pr r
pirpr-back r w h = let d = success w h in rw (line-written w h) ((C.pirpr).read-write r (fault-zero (pirpr_wrong r) d.good))

pub pirtr-back : (r : DatumAsked) {out left : List ℕ} {answer : Written} → Writes (fault_at (pirtr_wrong r)) (pirtr_body r) out answer left
    → answer.no ≡ 0 → read_line (take answer.length left) ≡ S.Tr r
pirtr-back r w h = let d = success w h in rw (line-written w h) ((C.pirtr).read-write r (fault-zero (pirtr_wrong r) d.good))

pub pirsr-back : (r : MasksAsked) {out left : List ℕ} {answer : Written} → Writes (fault_at (pirsr_wrong r)) (pirsr_body r) out answer left
    → answer.no ≡ 0 → read_line (take answer.length left) ≡ S.Sr r
pirsr-back r w h = let d = success w h in rw (line-written w h) ((C.pirsr).read-write r (fault-zero (pirsr_wrong r) d.good))

pub pirpa-back : (r : PortTold) {out left : List ℕ} {answer : Written} → Writes (fault_at (pirpa_wrong r)) (pirpa_body r) out answer left
    → answer.no ≡ 0 → read_line (take answer.length left) ≡ S.Pa r
pirpa-back r w h = let d = success w h in rw (line-written w h) ((C.pirpa).read-write r (fault-zero (pirpa_wrong r) d.good))

pub pirta-back : (r : DatumTold) {out left : List ℕ} {answer : Written} → Writes (fault_at (pirta_wrong r)) (pirta_body r) out answer left
    → answer.no ≡ 0 → read_line (take answer.length left) ≡ S.Ta r
pirta-back r w h = let d = success w h in rw (line-written w h) ((C.pirta).read-write r (fault-zero (pirta_wrong r) d.good))

pub pirsa-back : (r : MasksTold) {out left : List ℕ} {answer : Written} → Writes (fault_at (pirsa_wrong r)) (pirsa_body r) out answer left
    → answer.no ≡ 0 → read_line (take answer.length left) ≡ S.Sa r
pirsa-back r w h = let d = success w h in rw (line-written w h) ((C.pirsa).read-write r (fault-zero (pirsa_wrong r) d.good))

pub pirea-back : (r : CodeTold) {out left : List ℕ} {answer : Written} → Writes (fault_at (pirea_wrong r)) (pirea_body r) out answer left
    → answer.no ≡ 0 → read_line (take answer.length left) ≡ S.Ea r
pirea-back r w h = let d = success w h in rw (line-written w h) ((C.pirea).read-write r (fault-zero (pirea_wrong r) d.good))

pub pirer-back : {out left : List ℕ} {answer : Written} → Writes (fault_at 0) pirer_body out answer left → answer.no ≡ 0
    → read_line (take answer.length left) ≡ S.Er
pirer-back w h = rw (line-written w h) ((C.pirer).read-write tt C.pirer-good)

-- Bytes that were framed are a body, and what was written is a line that passes the line rule and has that body.
pub record Framed (body line : List ℕ) : Type 0 where
  pub is_body_lem : is_body body ≡ true
  pub passes : line_refusal line ≡ 0
  pub has : body_of line ≡ body

pub body-framed : (body : List ℕ) {out left : List ℕ} {answer : Written} → Writes (body_fault body) body out answer left → answer.no ≡ 0
    → Framed body (take answer.length left)
body-framed body w h =
    let b = Bodies.faultless body (success w h).good in
    rw (line-written w h) record { is_body_lem = b; passes = Bodies.body-passes body b; has = Bodies.framed-body body }

-- What was read can be written: it is in range, and its line fits.
pub read-can-be-written : (l : List ℕ) → Rewriting.CanBeWritten (read_line l)
read-can-be-written = Rewriting.read-can-be-written
