-- What was read of a GSV sentence is in range, so its numbers can be reckoned with: no field of it was wrong.
use Prim.Native.Nat.{◌-◌, ◌≤◌, suc, zero, ℕ}
use mathlib.Core.Bool.{◌&&◌, ◌||◌, Bool, false, true, true≢false}
use mathlib.Core.List.{[], ◌++◌, ◌∷◌, List}
use mathlib.Core.Path.{◌∙◌, ◌≡◌, ap, refl, sym}
use native.Mathlib.Omega.{arith}
use lib.Dec.{ltb}
use lib.ListN.{get_or, length, replicate, take}
use borrow.Author.Tests.{ltb-true}
use Rattle.digits.proofs.Bools.{and_left, and_right}
use Rattle.address.specs.declared.Talker.{Talker}
use Rattle.form.specs.Values.{outside}
use Rattle.form.specs.Wrong.{After, after}
use Rattle.form.proofs.Lists.{all-four}
use Rattle.form.proofs.Values.{inside}
use Rattle.form.proofs.Zeros.{all-zero, Zero}
use Rattle.kind_gsv.specs.Blank.{blank_entry, is_blank}
use Rattle.kind_gsv.specs.declared.Entry.{Entry}
use Rattle.kind_gsv.specs.declared.Gsv.{Gsv}
use Rattle.kind_gsv.specs.Writing.{entry_afters, entry_of, gsv_wrong, rest_blank, used}
use Rattle.kind_gsv.proofs.EntryLaws.{blank-is}
use Rattle.kind_gsv.proofs.GoodLaws.{Good}
use Rattle.sentence.specs.Lines.{read_line}
use Rattle.sentence.specs.Sentence as S
use Rattle.sentence_laws.proofs.GsvSame.{gsv-good}
use Rattle.sky.specs.Group.{used_of}
use Rattle.sky_read.specs.Steps.{Sound}

zero_left : (a b : List After) → Zero (a ++ b) → Zero a
zero_left [] b z = tt
zero_left (x ∷ a) b z = (z.0, zero_left a b z.1)

zero_right : (a b : List After) → Zero (a ++ b) → Zero b
zero_right [] b z = z
zero_right (x ∷ a) b z = zero_right a b z.1

-- The number of an entry that is used.
number_in : (u : Bool) (n : ℕ) (e : Entry) → Zero (entry_afters u n e) → u ≡ true → e.number ≤ 99
number_in true n e z q = (inside 1 99 e.number z.0).1
number_in false n e z q = absurd (true≢false (sym q))

four_are : {a b c d e f g h : Entry} → a ≡ e → b ≡ f → c ≡ g → d ≡ h → a ∷ b ∷ c ∷ d ∷ [] ≡ e ∷ f ∷ g ∷ h ∷ []
four_are {a} {b} {c} {d} {e} {f} {g} {h} p q r s = rw (p, q, r, s)

module _ (v : Gsv) (four : length v.entries ≡ 4) (good : Good v) where
  abbrev E : ℕ → ℕ → List After
  E j n = entry_afters (used v j) n (entry_of v j)

  zeros : Zero (after 0 (outside 1 9 v.lines) ∷ after 1 (outside 1 9 v.line) ∷ after 2 (outside 0 99 v.satellites)
      ∷ (E 0 3 ++ (E 1 7 ++ (E 2 11 ++ E 3 15))))
  unfolding gsv_wrong
  zeros = all-zero _ good.values

  numbers : (j : ℕ) → ltb j v.count ≡ true → (get_or v.entries j blank_entry).number ≤ 99
  numbers zero u = number_in (used v 0) 3 (entry_of v 0) (zero_left (E 0 3) _ zeros.1.1.1) u
  numbers (suc zero) u = number_in (used v 1) 7 (entry_of v 1) (zero_left (E 1 7) _ (zero_right (E 0 3) _ zeros.1.1.1)) u
  numbers (suc (suc zero)) u = number_in (used v 2) 11 (entry_of v 2)
      (zero_left (E 2 11) _ (zero_right (E 1 7) _ (zero_right (E 0 3) _ zeros.1.1.1))) u
  numbers (suc (suc (suc zero))) u = number_in (used v 3) 15 (entry_of v 3)
      (zero_right (E 2 11) _ (zero_right (E 1 7) _ (zero_right (E 0 3) _ zeros.1.1.1))) u
  numbers (suc (suc (suc (suc j)))) u = let p = ltb-true (suc (suc (suc (suc j)))) v.count u in let f = good.few in
      let z : ⊥ = omega (arith, p, f) in absurd z

  -- Places that are not used are blank.
  blank-rest : (c : ℕ) → c ≤ 4 → (a b d e : Entry)
      → ((ltb 0 c || is_blank a) && ((ltb 1 c || is_blank b) && ((ltb 2 c || is_blank d) && (ltb 3 c || is_blank e)))) ≡ true
      → a ∷ b ∷ d ∷ e ∷ [] ≡ take c (a ∷ b ∷ d ∷ e ∷ []) ++ replicate (4 - c) blank_entry
  blank-rest zero h a b d e q =
      let q1 = and_right (is_blank a) _ q in
      let q2 = and_right (is_blank b) _ q1 in
      four_are (blank-is a (and_left _ _ q)) (blank-is b (and_left _ _ q1)) (blank-is d (and_left _ _ q2))
      (blank-is e (and_right (is_blank d) _ q2))
  blank-rest (suc zero) h a b d e q =
      let q1 = and_right (is_blank b) _ q in
      four_are refl (blank-is b (and_left _ _ q)) (blank-is d (and_left _ _ q1)) (blank-is e (and_right (is_blank d) _ q1))
  blank-rest (suc (suc zero)) h a b d e q = four_are refl refl (blank-is d (and_left _ _ q)) (blank-is e (and_right (is_blank d) _ q))
  blank-rest (suc (suc (suc zero))) h a b d e q = four_are refl refl refl (blank-is e q)
  blank-rest (suc (suc (suc (suc zero)))) h a b d e q = refl
  blank-rest (suc (suc (suc (suc (suc c))))) h a b d e q = let z : ⊥ = omega arith in absurd z

  entries-four : entry_of v 0 ∷ entry_of v 1 ∷ entry_of v 2 ∷ entry_of v 3 ∷ [] ≡ v.entries
  entries-four = all-four blank_entry v.entries four

  rest : v.entries ≡ used_of v ++ replicate (4 - v.count) blank_entry
  unfolding rest_blank
  rest =
      sym entries-four
      ∙ blank-rest v.count good.few (entry_of v 0) (entry_of v 1) (entry_of v 2) (entry_of v 3) good.blank
      ∙ ap (λ (l : List Entry). take v.count l ++ replicate (4 - v.count) blank_entry) entries-four

  sound-of : Sound v
  sound-of = record {
    from_one = (inside 1 9 v.line zeros.1.0).0;
    line-nine = (inside 1 9 v.line zeros.1.0).1;
    lines-nine = (inside 1 9 v.lines zeros.0).1;
    satellites = (inside 0 99 v.satellites zeros.1.1.0).1;
    few = good.few;
    four = four;
    numbers = numbers;
    rest = rest;
  }

pub sound : (l : List ℕ) (t : Talker) (v : Gsv) → read_line l ≡ S.Gsv t v → Sound v
sound l t v e = let g = gsv-good l t v e in sound-of v g.0 g.1
