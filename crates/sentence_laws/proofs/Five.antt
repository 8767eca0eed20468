-- The place of a 5, of all kinds: by the address, the row that it leads to, and what is proved of that row.
use Prim.Native.Nat.{◌<◌, ◌≤◌, suc, ℕ}
use mathlib.Core.Bool.{Bool, false, true}
use mathlib.Core.List.{List}
use mathlib.Core.Path.{◌∙◌, ◌≡◌, ap, refl, sym}
use native.Mathlib.Omega.{arith}
use lib.Dec.{eqb, ltb}
use borrow.Author.Tests.{eq-eqb, eqb-false, eqb-true, le-ltb, ltb-false}
use Rattle.digits.specs.Pick.{pick}
use Rattle.address.specs.declared.Address.{Address}
use Rattle.address.specs.declared.Address.TheVariants.{Maker, Standard, Unknown}
use Rattle.address.specs.declared.Kind.{Kind}
use Rattle.address.specs.declared.Kind.TheVariants as K
use Rattle.address.specs.declared.Pir.{Pir}
use Rattle.address.specs.declared.Pir.TheVariants as P
use Rattle.address.specs.declared.Talker.{Talker}
use Rattle.form.specs.Kind.{answer_by, read_by}
use Rattle.form.specs.Row.{Row}
use Rattle.form.proofs.Clean.{Clean}
use Rattle.form.proofs.PlaceKind.{Placed}
use Rattle.form.proofs.PlaceLaws.{Agree, named_at}
use Rattle.sentence.specs.Sentence as S
use Rattle.kind_gga.specs.Row.{gga_row}
use Rattle.kind_gll.specs.Row.{gll_row}
use Rattle.kind_gsa.specs.Row.{gsa_made, gsa_row}
use Rattle.kind_gsv.specs.Row.{entries_of, gsv_row, gsv_with}
use Rattle.sentence.specs.Kinds.{gsv_of}
use Rattle.kind_gsv.proofs.Places.{entries-are}
use Rattle.kind_rmc.specs.Row.{rmc_row}
use Rattle.kind_vtg.specs.Row.{vtg_row}
use Rattle.kind_zda.specs.Row.{zda_row}
use Rattle.kind_zda.proofs.Laws.{usual_zda}
use Rattle.kind_pir_port.specs.Command.{pirpr_row}
use Rattle.kind_pir_port.specs.Reply.{pirpa_row}
use Rattle.kind_pir_datum.specs.Command.{pirtr_row}
use Rattle.kind_pir_datum.specs.Reply.{pirta_row}
use Rattle.kind_pir_masks.specs.Command.{pirsr_row}
use Rattle.kind_pir_masks.specs.Reply.{pirsa_row}
use Rattle.kind_pir_code.specs.Command.{pirer_row}
use Rattle.kind_pir_code.specs.Reply.{pirea_row}
use Rattle.sentence.specs.Lines.{addressed, refusal, Refusal, refusal_of}
use Rattle.sentence_laws.proofs.FiveMaker as C
use Rattle.sentence_laws.proofs.Gsv.{gsv_is}
use Rattle.sentence_laws.proofs.FiveSatellites as Sat
use Rattle.sentence_laws.proofs.FiveStandard as N

-- What n fields behind an address are refused with.
abbrev pub told_of : Address → ℕ → (ℕ → List ℕ) → Refusal
told_of a n field = refusal_of (addressed a n field)

-- Fields that are the same before field w, clean from it on, and read.
pub record Accepted (a : Address) (n : ℕ) (field : ℕ → List ℕ) (w : ℕ) : Type 0 where
  pub other : ℕ → List ℕ
  pub before : (j : ℕ) → suc j < w → other (suc j) ≡ field (suc j)
  pub clean : (j : ℕ) → j < n → w ≤ suc j → Clean (other (suc j))
  pub read : told_of a n other ≡ refusal 0 0

-- The exception: some year has the day and month of a ZDA.
abbrev pub usual : Address → (ℕ → List ℕ) → Type 0
usual (Standard t K.Zda) field = usual_zda field 0
usual (Standard t K.Gga) field = Unit {0}
usual (Standard t K.Gll) field = Unit {0}
usual (Standard t K.Gsa) field = Unit {0}
usual (Standard t K.Gsv) field = Unit {0}
usual (Standard t K.Rmc) field = Unit {0}
usual (Standard t K.Vtg) field = Unit {0}
usual (Maker k) field = Unit {0}
usual Unknown field = Unit {0}

pub record Five (a : Address) (n : ℕ) (field : ℕ → List ℕ) (w : ℕ) : Type 0 where
  pub within : (0 < w) × (w ≤ n)
  pub stays : (other : ℕ → List ℕ) → Agree field other suc w → told_of a n other ≡ refusal 5 w
  pub completed : usual a field → Accepted a n field w

-- What a row's answer is refused with.
module _ {A G R : Type 0} (refuse : ℕ → ℕ → A) (row : Row G R) (make : R → A) (told : A → Refusal)
    (refuses : (no at : ℕ) → told (refuse no at) ≡ refusal no at) (makes : (r : R) → told (make r) ≡ refusal 0 0) where
  pub record Named (n : ℕ) (field : ℕ → List ℕ) (w : ℕ) : Type 0 where
    pub many : n ≡ row.width
    pub some : 0 < w
    pub is : named_at row 0 field ≡ w

  named_by : (n : ℕ) (field : ℕ → List ℕ) (w : ℕ) → told (read_by refuse row make n field) ≡ refusal 5 w → Named n field w
  unfolding read_by answer_by
  named_by n field w = go (eqb n row.width) (eqb (named_at row 0 field) 0) refl refl
    where
      go : (a b : Bool) → eqb n row.width ≡ a → eqb (named_at row 0 field) 0 ≡ b
          → told (pick a (pick b (make (row.value (row.got field 0))) (refuse 5 (named_at row 0 field))) (refuse 4 0)) ≡ refusal 5 w
          → Named n field w
      go false b p q e = let z = ap (λ (r : Refusal). r.no) (sym (refuses 4 0) ∙ e) in let i : ⊥ = omega (arith, z) in absurd i
      go true true p q e = let z = ap (λ (r : Refusal). r.no) (sym (makes _) ∙ e) in let i : ⊥ = omega (arith, z) in absurd i
      go true false p q e =
          let is : named_at row 0 field ≡ w = ap (λ (r : Refusal). r.field) (sym (refuses 5 (named_at row 0 field)) ∙ e) in
          let not-zero = eqb-false (named_at row 0 field) 0 q in
          record { many = eqb-true n row.width p; some = omega (arith, is, not-zero); is = is }

  module _ {usually : (ℕ → List ℕ) → Type 0} (p : Placed refuse row make usually) (a : Address) (n : ℕ)
      (leads : (field : ℕ → List ℕ) → told_of a n field ≡ told (read_by refuse row make n field)) (as-usual : (field : ℕ → List ℕ)
      → usual a field
      → usually field) where
    five-of : (field : ℕ → List ℕ) (w : ℕ) → told_of a n field ≡ refusal 5 w → Five a n field w
    five-of field w e =
        let x = named_by n field w (sym (leads field) ∙ e) in
        let some : 0 < named_at row 0 field = omega (arith, x.some, x.is) in
        let whole : (other : ℕ → List ℕ) → told_of a n other ≡ told (read_by refuse row make row.width other) = λ other.
        leads other ∙ ap (λ (m : ℕ). told (read_by refuse row make m other)) x.many in
        record {
          within = (x.some, omega (arith, p.within field, x.is, x.many));
          stays = λ other s.
              let same = p.stays field other some (λ j h. s j (omega (arith, h, x.is))) in
              whole other ∙ ap told same ∙ refuses 5 _ ∙ ap (refusal 5) x.is;
          completed = λ u.
              let c = p.completed field some (as-usual field u) in
              record {
                other = c.other;
                before = λ j h. c.before j (omega (arith, h, x.is));
                clean = λ j h i. c.clean j (omega (arith, h, x.many)) (omega (arith, i, x.is));
                read = whole c.other ∙ ap told c.read ∙ makes _;
              };
        }

-- GSV by the row of its entries; with over four there is no 5.
gsv-row : (t : Talker) (n : ℕ) (field : ℕ → List ℕ) → entries_of n ≤ 4
    → gsv_of t n field ≡ read_by S.Refused (gsv_row (entries_of n)) (gsv_is t (entries_of n)) n field
unfolding gsv_with read_by
gsv-row t n field few = rw (le-ltb 4 (entries_of n) few, eq-eqb n (gsv_row (entries_of n)).width (entries-are n few))

many-four : (t : Talker) (n : ℕ) (field : ℕ → List ℕ) → ltb 4 (entries_of n) ≡ true → refusal_of (gsv_of t n field) ≡ refusal 4 0
unfolding gsv_with
many-four t n field h = rw h

gsv-five : (t : Talker) (n : ℕ) (field : ℕ → List ℕ) (w : ℕ) → told_of (Standard t K.Gsv) n field ≡ refusal 5 w
    → Five (Standard t K.Gsv) n field w
gsv-five t n field w e = go (ltb 4 (entries_of n)) refl
  where
    go : (b : Bool) → ltb 4 (entries_of n) ≡ b → Five (Standard t K.Gsv) n field w
    go true q =
        let z = ap (λ (r : Refusal). r.no) (sym (many-four t n field q) ∙ e) in
        let i : ⊥ = omega (arith, z) in
        absurd i
    go false q =
        let count = entries_of n in
        let few = ltb-false 4 (entries_of n) q in
        five-of S.Refused (gsv_row count) (gsv_is t count) refusal_of (λ no at. refl) (λ r. refl) (Sat.gsv t count)
        (Standard t K.Gsv) n (λ f. ap refusal_of (gsv-row t n f few)) (λ f u. tt) field w e

standard-five : (t : Talker) (k : Kind) (n : ℕ) (field : ℕ → List ℕ) (w : ℕ) → told_of (Standard t k) n field ≡ refusal 5 w
    → Five (Standard t k) n field w
standard-five t K.Gga n =
    five-of S.Refused gga_row (S.Gga t) refusal_of (λ no at. refl) (λ r. refl) (N.gga t) (Standard t K.Gga) n (λ f. refl) (λ f u. u)
standard-five t K.Gll n =
    five-of S.Refused gll_row (S.Gll t) refusal_of (λ no at. refl) (λ r. refl) (N.gll t) (Standard t K.Gll) n (λ f. refl) (λ f u. u)
standard-five t K.Rmc n =
    five-of S.Refused rmc_row (S.Rmc t) refusal_of (λ no at. refl) (λ r. refl) (N.rmc t) (Standard t K.Rmc) n (λ f. refl) (λ f u. u)
standard-five t K.Vtg n =
    five-of S.Refused vtg_row (S.Vtg t) refusal_of (λ no at. refl) (λ r. refl) (N.vtg t) (Standard t K.Vtg) n (λ f. refl) (λ f u. u)
standard-five t K.Zda n =
    five-of S.Refused zda_row (S.Zda t) refusal_of (λ no at. refl) (λ r. refl) (N.zda t) (Standard t K.Zda) n (λ f. refl) (λ f u. u)
standard-five t K.Gsa n =
    five-of S.Refused gsa_row (λ v. S.Gsa t (gsa_made v)) refusal_of (λ no at. refl) (λ r. refl) (Sat.gsa t)
    (Standard t K.Gsa) n (λ f. refl) (λ f u. tt)
standard-five t K.Gsv n = gsv-five t n

maker-five : (k : Pir) (n : ℕ) (field : ℕ → List ℕ) (w : ℕ) → told_of (Maker k) n field ≡ refusal 5 w → Five (Maker k) n field w
maker-five P.Pr n =
    five-of S.Refused pirpr_row S.Pr refusal_of (λ no at. refl) (λ r. refl) C.pirpr (Maker P.Pr) n (λ f. refl) (λ f u. u)
maker-five P.Tr n =
    five-of S.Refused pirtr_row S.Tr refusal_of (λ no at. refl) (λ r. refl) C.pirtr (Maker P.Tr) n (λ f. refl) (λ f u. u)
maker-five P.Sr n =
    five-of S.Refused pirsr_row S.Sr refusal_of (λ no at. refl) (λ r. refl) C.pirsr (Maker P.Sr) n (λ f. refl) (λ f u. u)
maker-five P.Er n =
    five-of S.Refused pirer_row (λ v. S.Er) refusal_of (λ no at. refl) (λ r. refl) C.pirer (Maker P.Er) n (λ f. refl) (λ f u. u)
maker-five P.Pa n =
    five-of S.Refused pirpa_row S.Pa refusal_of (λ no at. refl) (λ r. refl) C.pirpa (Maker P.Pa) n (λ f. refl) (λ f u. u)
maker-five P.Ta n =
    five-of S.Refused pirta_row S.Ta refusal_of (λ no at. refl) (λ r. refl) C.pirta (Maker P.Ta) n (λ f. refl) (λ f u. u)
maker-five P.Sa n =
    five-of S.Refused pirsa_row S.Sa refusal_of (λ no at. refl) (λ r. refl) C.pirsa (Maker P.Sa) n (λ f. refl) (λ f u. u)
maker-five P.Ea n =
    five-of S.Refused pirea_row S.Ea refusal_of (λ no at. refl) (λ r. refl) C.pirea (Maker P.Ea) n (λ f. refl) (λ f u. u)

-- Of any address, known or not.
pub five : (a : Address) (n : ℕ) (field : ℕ → List ℕ) (w : ℕ) → told_of a n field ≡ refusal 5 w → Five a n field w
five (Standard t k) n field w e = standard-five t k n field w e
five (Maker k) n field w e = maker-five k n field w e
five Unknown n field w e =
    let z : ◌≡◌ {A = ℕ} 3 5 = ap (λ (r : Refusal). r.no) e in
    let i : ⊥ = omega (arith, z) in
    absurd i
