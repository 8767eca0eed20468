-- No known address has a comma in it: no row of the tables has one. So where the sixth byte is a comma, it is the first.
use Prim.Native.Nat.{◌≤◌, ℕ}
use mathlib.Core.Path.{◌∙◌, ◌≡◌, ap, refl, sym}
use mathlib.Core.List.{[], ◌++◌, ◌∷◌, List}
use mathlib.Core.Bool.{Bool, false, not, true}
use Rattle.std.proofs.Common.{Option, Some, None}
use native.Mathlib.Omega.{arith}
use lib.ListN.{drop, get_or, length, get_or-eq_default, take, take-append-drop}
use lib.Dec.{eqb}
use borrow.Author.Tests.{eq-eqb, ne_eqb}
use Rattle.digits.proofs.Bools.{and_both, and_left, and_right}
use Rattle.address.specs.declared.Talker.{Talker}
use Rattle.address.specs.declared.Kind.{Kind}
use Rattle.address.specs.declared.Pir.{Pir}
use Rattle.address.specs.declared.Address.TheVariants.{Unknown}
use Rattle.digits.specs.Pick.{pick}
use Rattle.address.specs.Address.{address_of, comma_free, kind_of, kinds, known_of, maker, pir_of, pirs, standard, talked, talker_of}
use Rattle.address.specs.Address.{talkers}
use Rattle.address.proofs.Tables.{found-passes, rows}

free-join : (p s : List ℕ) → comma_free p ≡ true → comma_free s ≡ true → comma_free (p ++ s) ≡ true
unfolding comma_free
free-join [] s e f = f
free-join (b ∷ p) s e f = and_both (not (eqb b 44)) _ (and_left (not (eqb b 44)) _ e) (free-join p s (and_right (not (eqb b 44)) _ e) f)

talkers-free : rows comma_free talkers ≡ true
unfolding comma_free
talkers-free = refl

kinds-free : rows comma_free kinds ≡ true
unfolding comma_free
kinds-free = refl

pirs-free : rows comma_free pirs ≡ true
unfolding comma_free
pirs-free = refl

-- the address of bytes with a comma among them
module _ (a : List ℕ) (n : comma_free a ≡ true → ⊥) where
  by_kind : (t : Talker) → talker_of (take 2 a) ≡ Some t → (k : Option Kind) → kind_of (drop 2 a) ≡ k → standard t k ≡ Unknown
  by_kind t e (Some k) f =
      absurd (n (ap comma_free (sym (take-append-drop 2 a))
      ∙ free-join (take 2 a) (drop 2 a) (found-passes comma_free (take 2 a) talkers t talkers-free e)
      (found-passes comma_free (drop 2 a) kinds k kinds-free f)))
  by_kind t e None f = refl

  by-maker : (p : Option Pir) → pir_of a ≡ p → maker p ≡ Unknown
  by-maker (Some p) f = absurd (n (found-passes comma_free a pirs p pirs-free f))
  by-maker None f = refl

  by-talker : (o : Option Talker) → talker_of (take 2 a) ≡ o → talked o a ≡ Unknown
  by-talker (Some t) e = by_kind t e (kind_of (drop 2 a)) refl
  by-talker None e = by-maker (pir_of a) refl

  pub comma-unknown : known_of a ≡ Unknown
  unfolding known_of
  comma-unknown = by-talker (talker_of (take 2 a)) refl

-- Of the sixth byte it is enough to know that it is a comma.
pub sixth-comma : (body : List ℕ) → get_or body 5 0 ≡ 44 → known_of (take 5 body) ≡ address_of body
unfolding address_of
sixth-comma body e = rw (eq-eqb (get_or body 5 0) 44 e) (go (comma_free (take 5 body)) refl)
  where
    go : (t : Bool) → comma_free (take 5 body) ≡ t → known_of (take 5 body) ≡ pick t (known_of (take 5 body)) Unknown
    go true i = refl
    go false i = comma-unknown (take 5 body) (λ f. let z : ◌≡◌ {A = ℕ} 0 1 = cc in omega arith)

pub sixth-other : (body : List ℕ) → (get_or body 5 0 ≡ 44 → ⊥) → Unknown ≡ address_of body
unfolding address_of
sixth-other body n = rw (ne_eqb (get_or body 5 0) 44 n)

pub no-sixth : (body : List ℕ) → length body ≤ 5 → Unknown ≡ address_of body
no-sixth body h = sixth-other body (λ e. let z = get_or-eq_default body 0 {n = 5} h in omega arith)
