-- No address but that of GSV gives a GSV sentence, and it gives one of its own talker.
use Prim.Native.Nat.{ℕ}
use lib.Dec.{eqb, ltb}
use mathlib.Core.Bool.{Bool, false, true}
use mathlib.Core.List.{List}
use mathlib.Core.Path.{◌≡◌, ap, refl}
use Rattle.address.specs.declared.Address.{Address}
use Rattle.address.specs.declared.Address.TheVariants.{Maker, Standard, Unknown}
use Rattle.address.specs.declared.Kind.{Kind}
use Rattle.address.specs.declared.Kind.TheVariants as K
use Rattle.address.specs.declared.Pir.{Pir}
use Rattle.address.specs.declared.Pir.TheVariants as P
use Rattle.address.specs.declared.Talker.{Talker}
use Rattle.kind_pir_code.specs.Reply.{pirea_row}
use Rattle.kind_pir_code.specs.Command.{pirer_row}
use Rattle.kind_pir_port.specs.Reply.{pirpa_row}
use Rattle.kind_pir_port.specs.Command.{pirpr_row}
use Rattle.kind_pir_masks.specs.Reply.{pirsa_row}
use Rattle.kind_pir_masks.specs.Command.{pirsr_row}
use Rattle.kind_pir_datum.specs.Reply.{pirta_row}
use Rattle.kind_pir_datum.specs.Command.{pirtr_row}
use Rattle.digits.proofs.Bools.{true-false}
use Rattle.digits.specs.Pick.{pick}
use Rattle.kind_gga.specs.Row.{gga_row}
use Rattle.kind_gll.specs.Row.{gll_row}
use Rattle.kind_rmc.specs.Row.{rmc_row}
use Rattle.kind_vtg.specs.Row.{vtg_row}
use Rattle.kind_zda.specs.Row.{zda_row}
use Rattle.sentence.specs.Sentence as S
use Rattle.sentence.specs.Sentence.{Sentence}
use Rattle.kind_gsv.specs.declared.Gsv.{Gsv}
use Rattle.form.specs.Kind.{answer_by, read_by}
use Rattle.form.specs.Row.{Row}
use Rattle.kind_gsa.specs.Row.{gsa_made, gsa_row}
use Rattle.kind_gsv.specs.Row.{entries_of, gsv_made, gsv_row, gsv_with, Values}
use Rattle.sentence.specs.Kinds.{gsv_of}
use Rattle.sentence.specs.Lines.{addressed}

-- Whether a sentence is GSV.
abbrev is_gsv : Sentence → Bool
is_gsv (S.Gsv t r) = true
is_gsv (S.Gga t r) = false
is_gsv (S.Gll t r) = false
is_gsv (S.Gsa t r) = false
is_gsv (S.Rmc t r) = false
is_gsv (S.Vtg t r) = false
is_gsv (S.Zda t r) = false
is_gsv (S.Pr r) = false
is_gsv (S.Tr r) = false
is_gsv (S.Sr r) = false
is_gsv S.Er = false
is_gsv (S.Pa r) = false
is_gsv (S.Ta r) = false
is_gsv (S.Sa r) = false
is_gsv (S.Ea r) = false
is_gsv (S.Refused n f) = false

-- A refusal is no GSV sentence.
pub no-gsv : {P : Type 0} (n f : ℕ) (t : Talker) (v : Gsv) → S.Refused n f ≡ S.Gsv t v → P
no-gsv n f t v e = absurd (true-false (ap is_gsv e) refl)

module _ (t : Talker) (v : Gsv) (n : ℕ) (field : ℕ → List ℕ) where
  abbrev pub Only : Address → Type 0
  Only a = addressed a n field ≡ S.Gsv t v → a ≡ Standard t K.Gsv

  none_of : (a : Address) → is_gsv (addressed a n field) ≡ false → Only a
  none_of a o e = absurd (true-false (ap is_gsv e) o)

  -- An answer is what it is for, or a refusal.
  other : {A G R : Type 0} (refuse : ℕ → ℕ → A) (row : Row G R) (make : R → A) (is : A → Bool) → ((no at : ℕ) → is (refuse no at) ≡ false)
      → ((r : R) → is (make r) ≡ false) → is (read_by refuse row make n field) ≡ false
  unfolding read_by answer_by
  other refuse row make is none o = go (row.wrong (row.got field 0) 0 0) (eqb n row.width)
    where
      go : (w : ℕ) (a : Bool) → is (pick a (pick (eqb w 0) (make (row.value (row.got field 0))) (refuse 5 w)) (refuse 4 0)) ≡ false
      go w true = by (eqb w 0)
        where
          by : (b : Bool) → is (pick b (make (row.value (row.got field 0))) (refuse 5 w)) ≡ false
          by true = o (row.value (row.got field 0))
          by false = none 5 w
      go w false = none 4 0

  alone : {G R : Type 0} (row : Row G R) (make : R → Sentence) → ((r : R) → is_gsv (make r) ≡ false)
      → is_gsv (read_by S.Refused row make n field) ≡ false
  alone row make = other S.Refused row make is_gsv (λ no at. refl)

  same-talker : (u : Talker) → gsv_of u n field ≡ S.Gsv t v → u ≡ t
  unfolding gsv_with answer_by
  same-talker u e =
      let g = (gsv_row (entries_of n)).got field 0 in
      go (ltb 4 (entries_of n)) (eqb ((gsv_row (entries_of n)).wrong g 0 0) 0) ((gsv_row (entries_of n)).wrong g 0 0)
      ((gsv_row (entries_of n)).value g) e
    where
      go : (a b : Bool) (w : ℕ) (x : Values)
          → pick a (S.Refused 4 0) (pick b (S.Gsv u (gsv_made (entries_of n) x)) (S.Refused 5 w)) ≡ S.Gsv t v
          → u ≡ t
      go true b w x e = no-gsv 4 0 t v e
      go false true w x e = cc
      go false false w x e = no-gsv 5 w t v e

  standard-only : (u : Talker) (k : Kind) → Only (Standard u k)
  standard-only u K.Gga = none_of (Standard u K.Gga) (alone gga_row (S.Gga u) (λ r. refl))
  standard-only u K.Gll = none_of (Standard u K.Gll) (alone gll_row (S.Gll u) (λ r. refl))
  standard-only u K.Gsa =
      none_of (Standard u K.Gsa) (alone gsa_row (λ x. S.Gsa u (gsa_made x)) (λ r. refl))
  standard-only u K.Gsv = λ e. ap (λ (x : Talker). Standard x K.Gsv) (same-talker u e)
  standard-only u K.Rmc = none_of (Standard u K.Rmc) (alone rmc_row (S.Rmc u) (λ r. refl))
  standard-only u K.Vtg = none_of (Standard u K.Vtg) (alone vtg_row (S.Vtg u) (λ r. refl))
  standard-only u K.Zda = none_of (Standard u K.Zda) (alone zda_row (S.Zda u) (λ r. refl))

  maker-only : (k : Pir) → Only (Maker k)
  maker-only P.Pr = none_of (Maker P.Pr) (alone pirpr_row S.Pr (λ r. refl))
  maker-only P.Tr = none_of (Maker P.Tr) (alone pirtr_row S.Tr (λ r. refl))
  maker-only P.Sr = none_of (Maker P.Sr) (alone pirsr_row S.Sr (λ r. refl))
  maker-only P.Er = none_of (Maker P.Er) (alone pirer_row (λ v. S.Er) (λ r. refl))
  maker-only P.Pa = none_of (Maker P.Pa) (alone pirpa_row S.Pa (λ r. refl))
  maker-only P.Ta = none_of (Maker P.Ta) (alone pirta_row S.Ta (λ r. refl))
  maker-only P.Sa = none_of (Maker P.Sa) (alone pirsa_row S.Sa (λ r. refl))
  maker-only P.Ea = none_of (Maker P.Ea) (alone pirea_row S.Ea (λ r. refl))

  -- No other address gives a GSV sentence.
  pub only-gsv : (a : Address) → Only a
  only-gsv (Standard u k) = standard-only u k
  only-gsv (Maker k) = maker-only k
  only-gsv Unknown = none_of Unknown refl
