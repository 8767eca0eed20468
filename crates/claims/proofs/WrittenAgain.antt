-- Numbers that were written, read back: the line has their kind, and the numbers that it lays are the ones that were given, all of them.
-- What the writer accepts stands in one form only, so that the record that the numbers say has those numbers; and its line reads as it.
use Prim.Native.Nat.{◌+◌, ◌≤◌, suc, zero, ℕ}
use mathlib.Core.Path.{◌∙◌, ◌≡◌, ap, refl, subst, sym}
use mathlib.Core.Bool.{◌&&◌, Bool, false, true}
use mathlib.Core.List.{[], ◌++◌, ◌∷◌, List}
use native.Mathlib.Omega.{arith}
use native.Mathlib.Nat.{add-zero, zero-add}
use borrow.Author.Tests.{eqb-false, le-leb, ltb-false}
use lib.Dec.{eqb, leb, ltb}
use lib.IntN.{pos, ℤ}
use lib.ListN.{drop, get_or, length, take}
use lib.Seq.{take_at}
use Rattle.digits.specs.Pick.{pick}
use Rattle.address.specs.declared.Address.{Address}
use Rattle.address.specs.declared.Address.TheVariants.{Unknown}
use Rattle.address.specs.declared.Talker.{Talker}
use Rattle.frame.specs.Written.{fault_at, refused, Writes}
use Rattle.kind_gga.specs.Row.{gga_wrong}
use Rattle.kind_gll.specs.Row.{gll_wrong}
use Rattle.kind_gsa.specs.Row.{gsa_wrong}
use Rattle.kind_pir_code.specs.Reply.{pirea_wrong}
use Rattle.kind_pir_datum.specs.Command.{pirtr_wrong}
use Rattle.kind_pir_datum.specs.Reply.{pirta_wrong}
use Rattle.kind_pir_masks.specs.Command.{pirsr_wrong}
use Rattle.kind_pir_masks.specs.Reply.{pirsa_wrong}
use Rattle.kind_pir_port.specs.Command.{pirpr_wrong}
use Rattle.kind_pir_port.specs.Reply.{pirpa_wrong}
use Rattle.kind_rmc.specs.Row.{rmc_wrong}
use Rattle.kind_vtg.specs.Row.{vtg_wrong}
use Rattle.kind_zda.specs.Row.{zda_wrong}
use Rattle.kind_gsv.proofs.GoodLaws.{fault-none, good-is}
use Rattle.numbers.specs.Layout.{Layout, maker_numbers, number_at, standard, standard_numbers, whole}
use Rattle.numbers.specs.Numbers.{talker_number, talker_of}
use Rattle.numbers.specs.Told.{told}
use Rattle.numbers.proofs.Layouts.{LawfulLayout}
use Rattle.numbers.proofs.Laying.{laid-is}
use Rattle.sentence.specs.Back.{address_at, addressed, known_of, maker_kinds, record_at, standard_kinds}
use Rattle.sentence.specs.FromHost.{gps_over, left_as, numbers_fault, over_in, record_body, record_fault, refused_by, written_as}
use Rattle.sentence.specs.Lines.{read_line, refusal_of}
use Rattle.sentence.specs.Numbers.{count_of, kind_of, numbers_of}
use Rattle.sentence.specs.Sentence as S
use Rattle.sentence.specs.Sentence.{Sentence}
use Rattle.sentence.specs.ToHost.{laid_for, told_for, told_of}
use Rattle.sentence_laws.proofs.LawfulLayouts.{lawful-gga, lawful-gll, lawful-gsa, lawful-gsv, lawful-pirea, lawful-pirpa, lawful-pirpr}
use Rattle.sentence_laws.proofs.LawfulLayouts.{lawful-pirsa, lawful-pirsr, lawful-pirta, lawful-pirtr, lawful-rmc, lawful-vtg, lawful-zda}
use Rattle.sentence_laws.proofs.LawfulLayouts.{many-numbers}
use Rattle.claims.proofs.OneForm.{Said, said-number, whole_again}
use Rattle.claims.proofs.OneFormKinds as K
use Rattle.claims.proofs.ReadAgain.{body_back, full-record}
use Rattle.claims.proofs.Rewriting.{CanBeWritten, Fits}
use Rattle.claims.proofs.Writing.{fault-zero, line-written, success}

-- A number of 0 to 4 is its talker's.
talker-again : (n : ℕ) → n ≤ 4 → talker_number (talker_of n) ≡ n
talker-again zero h = refl
talker-again (suc zero) h = refl
talker-again (suc (suc zero)) h = refl
talker-again (suc (suc (suc zero))) h = refl
talker-again (suc (suc (suc (suc zero)))) h = refl
talker-again (suc (suc (suc (suc (suc n))))) h = let y : ⊥ = omega (arith, h) in absurd y

-- The numbers of a record of a talker, and of one of the maker, with the numbers behind them.
standard-again : {R : Type 0} {a : Layout R} → LawfulLayout a → (n : List ℤ) → (standard a).size ≤ length n → whole.at n 0 ≤ 4
    → Said a n 1 → standard_numbers a (talker_of (whole.at n 0)) ((standard a).at n 0).1 ++ drop (standard a).size n ≡ n
unfolding standard_numbers
standard-again {a = a} f n room t s =
    let number = pos (talker_number (talker_of (whole.at n 0))) in
    let first : number ≡ number_at n 0 = ap pos (talker-again (whole.at n 0) t) ∙ whole_again (number_at n 0) (omega (arith, t)) in
    ap (λ (l : List ℤ). number ∷ l) (sym (f.onto (a.at n 1) (drop (standard a).size n)) ∙ s)
    ∙ said-number n 0 number (omega (arith, room)) first

maker-again : {R : Type 0} {a : Layout R} → LawfulLayout a → (n : List ℤ) → Said a n 0
    → maker_numbers a (a.at n 0) ++ drop a.size n ≡ n
unfolding maker_numbers
maker-again {a = a} f n s =
    sym (f.onto (a.at n 0) (drop a.size n))
    ∙ ap (λ (k : ℕ). a.numbers (a.at n 0) (drop k n)) (sym (zero-add a.size)) ∙ s

-- What is shown of each kind: numbers that are enough, that name a talker and that say a record without a fault are the record's own.
abbrev Again : List ℤ → ℕ → Address → Type 0
Again n kind a =
    count_of kind ≤ length n → (ltb kind 8 && ltb 4 (whole.at n 0)) ≡ false → over_in a n ≡ false → (record_fault (addressed a n)).no ≡ 0
    → (kind_of (addressed a n) ≡ kind) × (numbers_of (addressed a n) ++ drop (count_of kind) n ≡ n)

-- What holds of each in a list, and of what stands in no place of it, holds of the one in any place.
abbrev AllFrom : {A : Type 0} → (ℕ → A → Type 0) → ℕ → List A → Type 0
AllFrom P i [] = Unit {0}
AllFrom P i (x ∷ l) = P i x × AllFrom P (suc i) l

in_place_lem : {A : Type 0} (P : ℕ → A → Type 0) (d : A) → ((k : ℕ) → P k d) → (i : ℕ) (l : List A) → AllFrom P i l → (k : ℕ)
    → P (i + k) (get_or l k d)
in_place_lem P d h i [] s k = h (i + k)
in_place_lem P d h i (x ∷ l) s zero = subst (λ (j : ℕ). P j x) (sym (add-zero i)) s.0
in_place_lem P d h i (x ∷ l) s (suc k) =
    let e : suc i + k ≡ i + suc k = omega arith in
    subst (λ (j : ℕ). P j (get_or l k d)) e (in_place_lem P d h (suc i) l s.1 k)

module _ (n : List ℤ) where
  abbrev talker : Talker
  talker = talker_of (whole.at n 0)

  -- 1 to 7 are a talker's.
  at-talker : {R : Type 0} {a : Layout R} → LawfulLayout a → (fault : R → ℕ)
      → ((standard a).size ≤ length n → fault ((standard a).at n 0).1 ≡ 0 → Said a n 1)
      → (standard a).size ≤ length n → ltb 4 (whole.at n 0) ≡ false → (fault_at (fault ((standard a).at n 0).1)).no ≡ 0
      → standard_numbers a talker ((standard a).at n 0).1 ++ drop (standard a).size n ≡ n
  at-talker f fault s room t e =
      standard-again f n room (ltb-false 4 (whole.at n 0) t) (s room (fault-zero _ e))

  at-maker : {R : Type 0} {a : Layout R} → LawfulLayout a → (fault : R → ℕ) → (a.size ≤ length n → fault (a.at n 0) ≡ 0 → Said a n 0)
      → a.size ≤ length n → (fault_at (fault (a.at n 0))).no ≡ 0 → maker_numbers a (a.at n 0) ++ drop a.size n ≡ n
  at-maker f fault s room e = maker-again f n (s room (fault-zero _ e))

  none-again : (kind : ℕ) → Again n kind Unknown
  unfolding refused_by
  none-again kind room t o e = let y : ⊥ = omega (arith, e) in absurd y

  all-again : AllFrom (Again n) 0 (Unknown ∷ standard_kinds talker)
  all-again = (
    none-again 0,
    (
      λ room t o e. (refl, at-talker lawful-gga gga_wrong (K.gga-said n) room t e),
      (
        λ room t o e. (refl, at-talker lawful-gll gll_wrong (K.gll-said n) room t e),
        (
          λ room t o e. (refl, at-talker lawful-gsa gsa_wrong (K.gsa-said n) room t e),
          (
            λ room t o e. (refl, standard-again lawful-gsv n room (ltb-false 4 (whole.at n 0) t) (K.gsv-said n room e)),
            (
              λ room t o e. (refl, at-talker lawful-rmc rmc_wrong (K.rmc-said n) room t e),
              (
                λ room t o e. (refl, at-talker lawful-vtg vtg_wrong (K.vtg-said n) room t e),
                (λ room t o e. (refl, at-talker lawful-zda zda_wrong (K.zda-said n) room t e), maker-kinds),
              ),
            ),
          ),
        ),
      ),
    ),
  )
    where
      maker-kinds : AllFrom (Again n) 8 maker_kinds
      maker-kinds = (
        λ room t o e. (refl, at-maker lawful-pirpr pirpr_wrong (K.pirpr-said n) room e),
        (
          λ room t o e. (refl, at-maker lawful-pirtr pirtr_wrong (K.pirtr-said n) room e),
          (
            λ room t o e. (refl, at-maker lawful-pirsr pirsr_wrong (λ r i. K.pirsr-said n r o i) room e),
            (
              λ room t o e. (refl, refl),
              (
                λ room t o e. (refl, at-maker lawful-pirpa pirpa_wrong (K.pirpa-said n) room e),
                (
                  λ room t o e. (refl, at-maker lawful-pirta pirta_wrong (K.pirta-said n) room e),
                  (
                    λ room t o e. (refl, at-maker lawful-pirsa pirsa_wrong (λ r i. K.pirsa-said n r o i) room e),
                    (λ room t o e. (refl, at-maker lawful-pirea pirea_wrong (K.pirea-said n) room e), tt),
                  ),
                ),
              ),
            ),
          ),
        ),
      )

  known-again : (kind : ℕ) → Again n kind (known_of kind talker)
  unfolding known_of
  known-again kind =
      subst (λ (k : ℕ). Again n k (get_or (Unknown ∷ standard_kinds talker) kind Unknown)) (zero-add kind)
      (in_place_lem (Again n) Unknown none-again 0 (Unknown ∷ standard_kinds talker) all-again kind)

-- Numbers that say a record without a fault are the record's own, and those behind them are not looked at.
pub one_form : (kind : ℕ) (n : List ℤ) → gps_over kind n ≡ false → (record_fault (record_at kind n)).no ≡ 0
    → (kind_of (record_at kind n) ≡ kind) × (numbers_of (record_at kind n) ++ drop (count_of kind) n ≡ n)
unfolding record_at address_at gps_over refused_by
one_form kind n = go (ltb (length n) (count_of kind)) (ltb kind 8 && ltb 4 (whole.at n 0)) refl refl
  where
    known : Address
    known = known_of kind (talker_of (whole.at n 0))

    said : Bool → Bool → Sentence
    said a b = pick a (S.Refused 5 0) (addressed (pick b Unknown known) n)

    go : (a b : Bool) → ltb (length n) (count_of kind) ≡ a → (ltb kind 8 && ltb 4 (whole.at n 0)) ≡ b
        → (leb (count_of kind) (length n) && over_in (pick b Unknown known) n) ≡ false → (record_fault (said a b)).no ≡ 0
        → (kind_of (said a b) ≡ kind) × (numbers_of (said a b) ++ drop (count_of kind) n ≡ n)
    go true b p q o e = let y : ⊥ = omega (arith, e) in absurd y
    go false true p q o e = let y : ⊥ = omega (arith, e) in absurd y
    go false false p q o e =
        let room = ltb-false (length n) (count_of kind) p in
        known-again n kind room q (rw (le-leb (count_of kind) (length n) room) at o) e

-- A record that is written is in range and fits, is no refusal, and has a kind.
record Accepted (s : Sentence) : Type 0 where
  can : CanBeWritten s
  read : (refusal_of s).no ≡ 0
  some : kind_of s ≡ 0 → ⊥

accepted : (s : Sentence) → (record_fault s).no ≡ 0 → Fits (record_body s) → Accepted s
unfolding refused_by
accepted (S.Gga t r) e f = record { can = (fault-zero _ e, f); read = refl; some = λ q. omega (arith, q) }
accepted (S.Gll t r) e f = record { can = (fault-zero _ e, f); read = refl; some = λ q. omega (arith, q) }
accepted (S.Gsa t r) e f = record { can = (fault-zero _ e, f); read = refl; some = λ q. omega (arith, q) }
accepted (S.Gsv t r) e f = record { can = (fault-none r (good-is r e), f); read = refl; some = λ q. omega (arith, q) }
accepted (S.Rmc t r) e f = record { can = (fault-zero _ e, f); read = refl; some = λ q. omega (arith, q) }
accepted (S.Vtg t r) e f = record { can = (fault-zero _ e, f); read = refl; some = λ q. omega (arith, q) }
accepted (S.Zda t r) e f = record { can = (fault-zero _ e, f); read = refl; some = λ q. omega (arith, q) }
accepted (S.Pr r) e f = record { can = (fault-zero _ e, f); read = refl; some = λ q. omega (arith, q) }
accepted (S.Tr r) e f = record { can = (fault-zero _ e, f); read = refl; some = λ q. omega (arith, q) }
accepted (S.Sr r) e f = record { can = (fault-zero _ e, f); read = refl; some = λ q. omega (arith, q) }
accepted S.Er e f = record { can = f; read = refl; some = λ q. omega (arith, q) }
accepted (S.Pa r) e f = record { can = (fault-zero _ e, f); read = refl; some = λ q. omega (arith, q) }
accepted (S.Ta r) e f = record { can = (fault-zero _ e, f); read = refl; some = λ q. omega (arith, q) }
accepted (S.Sa r) e f = record { can = (fault-zero _ e, f); read = refl; some = λ q. omega (arith, q) }
accepted (S.Ea r) e f = record { can = (fault-zero _ e, f); read = refl; some = λ q. omega (arith, q) }
accepted (S.Refused n m) e f = go (eqb n 0) refl e
  where
    go : (b : Bool) → eqb n 0 ≡ b → (pick b (refused 3 0 0) (refused n 0 m)).no ≡ 0 → Accepted (S.Refused n m)
    go true q i = let y : ⊥ = omega (arith, i) in absurd y
    go false q i = absurd (eqb-false n 0 q i)

fault-parts : (over : Bool) (s : Sentence) → (numbers_fault over s).no ≡ 0 → (over ≡ false) × ((record_fault s).no ≡ 0)
fault-parts true s e = let y : ⊥ = omega (arith, e) in absurd y
fault-parts false s e = (refl, e)

told-there : (s : Sentence) (lent : List ℤ) → (refusal_of s).no ≡ 0 → length (numbers_of s) ≤ length lent
    → told_for s lent ≡ told 0 (kind_of s) 0
unfolding told_of
told-there s lent e h = rw (e, le-leb (length (numbers_of s)) (length lent) h)

-- The bytes that a host's numbers were written as.
abbrev pub line_of : ℕ → List ℤ → List ℕ → List ℕ
line_of kind numbers out = take (written_as kind numbers out).length (left_as kind numbers out)

-- Numbers that were written, read into a lent slice with room for them: the answer is 0 with their kind, and the numbers are those that
-- were given; the rest of the slice stays.
pub write_again : (kind : ℕ) (numbers : List ℤ) (out : List ℕ) → (written_as kind numbers out).no ≡ 0
    → (lent : List ℤ) → count_of kind ≤ length lent
    → (told_for (read_line (line_of kind numbers out)) lent ≡ told 0 kind 0)
    × (laid_for (read_line (line_of kind numbers out)) lent ≡ take (count_of kind) numbers ++ drop (count_of kind) lent)
write_again kind numbers out h lent room =
    let s = record_at kind numbers in
    let w : Writes (numbers_fault (gps_over kind numbers) s) (record_body s) out (written_as kind numbers out) (left_as kind numbers out) =
    record { answers = refl; leaves = refl } in
    let d = success w h in
    let parts = fault-parts (gps_over kind numbers) s d.good in
    let form = one_form kind numbers parts.0 parts.1 in
    let good = accepted s parts.1 d.most in
    let back = ap read_line (line-written w h) ∙ body_back s good.can (full-record kind numbers) good.some in
    let many : length (numbers_of s) ≡ count_of kind = (many-numbers s).0 ∙ ap count_of form.0 in
    let own : numbers_of s ≡ take (count_of kind) numbers =
    sym (take_at (numbers_of s) (drop (count_of kind) numbers) (count_of kind) many) ∙ ap (take (count_of kind)) form.1 in
    let fits : length (numbers_of s) ≤ length lent = omega (arith, many, room) in (
      ap (λ (x : Sentence). told_for x lent) back ∙ told-there s lent good.read fits ∙ ap (λ (k : ℕ). told 0 k 0) form.0,
      ap (λ (x : Sentence). laid_for x lent) back ∙ laid-is (numbers_of s) lent fits
          ∙ ap (λ (l : List ℤ). l ++ drop (length (numbers_of s)) lent) own
          ∙ ap (λ (k : ℕ). take (count_of kind) numbers ++ drop k lent) many,
    )
