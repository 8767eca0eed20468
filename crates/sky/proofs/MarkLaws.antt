-- Marks of satellite numbers: no entry has none, and one more mark is one more entry. A line of up to four entries is four such steps.
use Prim.Native.Nat.{ℕ, ◌<◌}
use mathlib.Core.Path.{◌≡◌, refl, sym, ◌∙◌, ap, subst}
use mathlib.Core.List.{List, [], ◌∷◌, ◌++◌, append-nil}
use mathlib.Core.Bool.{Bool, true, false, ◌&&◌, ◌||◌, cond, true≢false}
use native.Mathlib.Omega.{arith}
use lib.Dec.{eqb}
use lib.ListN.{length, get_or, set, replicate, length-set, get_or-replicate}
use lib.Seq.{get_or-set_same, get_or-set_other}
use borrow.Author.Tests.{eqb-true, eq-eqb, ne_eqb}
use Rattle.kind_gsv.specs.declared.Entry.{Entry}
use Rattle.sky.specs.Group.{numbered}
use Rattle.sky.specs.Marks.{Marks, HasMark, had_if, marked_if}

pub marks-none : Marks [] (replicate 100 0)
unfolding numbered
marks-none n h = get_or-replicate 100 n 0 0 h

or_swap : (a b : Bool) → (a || (b || false)) ≡ (a || b)
or_swap true b = refl
or_swap false true = refl
or_swap false false = refl

or_assoc : (a b c : Bool) → (a || (b || c)) ≡ ((a || b) || c)
or_assoc true b c = refl
or_assoc false b c = refl

numbered-append : (n : ℕ) (es : List Entry) (e : Entry) → numbered n (es ++ (e ∷ [])) ≡ (numbered n es || eqb e.number n)
unfolding numbered
numbered-append n [] e = or_swap false (eqb e.number n)
numbered-append n (x ∷ es) e = ap (λ (b : Bool). eqb x.number n || b) (numbered-append n es e)
    ∙ or_assoc (eqb x.number n) (numbered n es) (eqb e.number n)

-- A mark is 1 exactly where the number is there.
mark-test : (b : Bool) (m : ℕ) → m ≡ cond b 1 0 → eqb m 1 ≡ b
mark-test true m e = eq-eqb m 1 e
mark-test false m e = ne_eqb m 1 (λ q. omega (arith, e))

or-true : (b c : Bool) → c ≡ true → (b || c) ≡ true
or-true true c e = refl
or-true false c e = e

or-false : (b c : Bool) → c ≡ false → (b || c) ≡ b
or-false true c e = refl
or-false false c e = e

module _ (es : List Entry) (seen : List ℕ) (m : Marks es seen) (e : Entry) (h : e.number < length seen) where
  had : eqb (get_or seen e.number 0) 1 ≡ numbered e.number es
  had = mark-test (numbered e.number es) (get_or seen e.number 0) (m e.number h)

  added : Marks (es ++ (e ∷ [])) (set seen e.number 1)
  added n i = go (eqb e.number n) refl
    where
      long : n < length seen
      long = omega (arith, i, length-set seen e.number 1)

      go : (b : Bool) → eqb e.number n ≡ b → get_or (set seen e.number 1) n 0 ≡ cond (numbered n (es ++ (e ∷ []))) 1 0
      go true q =
          let p : e.number ≡ n = eqb-true e.number n q in
          let one : get_or (set seen e.number 1) n 0 ≡ 1 = subst (λ (j : ℕ). get_or (set seen e.number 1) j 0 ≡ 1) p
          (get_or-set_same seen e.number 1 0 h) in
          one ∙ sym (ap (λ (b : Bool). cond b 1 0) (numbered-append n es e ∙ or-true (numbered n es) (eqb e.number n) q))
      go false q =
          get_or-set_other seen e.number n 1 0 (λ z. absurd-eq z)
          ∙ m n long
          ∙ sym (ap (λ (b : Bool). cond b 1 0) (numbered-append n es e ∙ or-false (numbered n es) (eqb e.number n) q))
        where
          absurd-eq : n ≡ e.number → ⊥
          absurd-eq z = true≢false (sym (eq-eqb e.number n (sym z)) ∙ q)

-- An entry that is used is one more, any other is none.
abbrev pub if_used : Bool → Entry → List Entry
if_used true e = e ∷ []
if_used false e = []

pub record One (used : Bool) (e : Entry) (es : List Entry) (answer : Bool) (left : List ℕ) : Type 0 where
  pub finds : answer ≡ (used && numbered e.number es)
  pub marks : Marks (es ++ if_used used e) left

pub one-mark : (used : Bool) (e : Entry) (es : List Entry) (seen : List ℕ) → Marks es seen → HasMark used e.number seen
    → One used e es (had_if used e.number seen) (marked_if used e.number seen)
one-mark true e es seen m h = record { finds = had es seen m e (h refl); marks = added es seen m e (h refl) }
one-mark false e es seen m h = record { finds = refl; marks = subst (λ (l : List Entry). Marks l seen) (sym (append-nil es)) m }
