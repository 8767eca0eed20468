-- The place of a 5 in rows put together: the first row's fields are the same where it reads the same, and with it the key of the second.
use Prim.Native.Nat.{◌+◌, ◌-◌, ◌<◌, ◌≤◌, suc, ℕ}
use mathlib.Core.Bool.{◌&&◌, ◌||◌, Bool, cond, false, not, true}
use mathlib.Core.List.{[], ◌∷◌, List}
use mathlib.Core.Path.{◌∙◌, ◌≡◌, ap, refl, subst, sym}
use native.Mathlib.Nat.{zero-add}
use native.Mathlib.Omega.{arith}
use lib.Dec.{eqb, leb, lit≤, ltb}
use lib.ListN.{length}
use borrow.Author.Tests.{eqb-false, eqb-true, le-leb, lt-leb, ltb-false, ltb-true}
use Rattle.digits.specs.Pick.{pick}
use Rattle.digits.specs.Same.{same}
use Rattle.form.specs.Row.{◌▷◌, depending, Form, measured, Row, unit_after}
use Rattle.form.specs.Units.{unit_wrong}
use Rattle.form.specs.Values.{unit_field}
use Rattle.form.specs.Wrong.{near_of}
use Rattle.form.proofs.Clean.{Clean}
use Rattle.form.proofs.Laws.{of_one}
use Rattle.numbers.specs.Layout.{Layout, nothing}
use Rattle.form.proofs.PlaceLaws.{after, Agree, Completed, eased, named_at, near_none, near-some, Prefix, prefix-made, prefix-one}
use Rattle.form.proofs.PlaceLaws.{prefix-single, PrefixBut}
use Rattle.form.proofs.UnitLaws.{unit-letter}

-- The first wrong field of two that follow each other, moved as one.
near-near : (n w u v rest : ℕ) → near_of n u (near_of (n + w) v rest) ≡ near_of n (near_of 0 u (near_of (0 + w) v 0)) rest
unfolding near_of
near-near n w u v rest = go (eqb u 0) (eqb v 0) refl refl
  where
    go : (s t : Bool) → eqb u 0 ≡ s → eqb v 0 ≡ t
        → cond s (cond t rest (n + w + v)) (n + u) ≡ near_of n (cond s (cond t 0 (0 + w + v)) (0 + u)) rest
    go false t e i =
        let h = eqb-false u 0 e in
        let k : 0 < 0 + u = omega (arith, h) in
        let a : n + u ≡ n + (0 + u) = omega arith in
        a ∙ sym (near-some n (0 + u) rest k)
    go true false e i =
        let h = eqb-false v 0 i in
        let k : 0 < 0 + w + v = omega (arith, h) in
        let a : n + w + v ≡ n + (0 + w + v) = omega arith in
        a ∙ sym (near-some n (0 + w + v) rest k)
    go true true e i = sym (near_none n 0 rest refl)

-- Some fields up to a place, and others after it.
cut : ℕ → (ℕ → List ℕ) → (ℕ → List ℕ) → ℕ → List ℕ
cut p x y j = pick (leb j p) (x j) (y j)

cut_low : (p : ℕ) (x y : ℕ → List ℕ) (j : ℕ) → j ≤ p → cut p x y j ≡ x j
unfolding cut
cut_low p x y j h = rw (le-leb j p h)

cut_high : (p : ℕ) (x y : ℕ → List ℕ) (j : ℕ) → p < j → cut p x y j ≡ y j
unfolding cut
cut_high p x y j h = rw (lt-leb j p h)

-- One row, then another that depends on it.
module _ {K G X H Y : Type 0} (w m : ℕ) (y : Layout Y) (found : G → K) (held : X → K) (a : Row G X) (b : K → Row H Y)
    (wide : (k : K) → (b k).width ≡ w)
    {early late : (ℕ → List ℕ) → ℕ → Type 0} (p : PrefixBut a early) (q : (k : K) → PrefixBut (b k) late) where
  abbrev both : Row (G × H) (X × Y)
  both = depending w m y found held a b

  -- The wrong field of each, by its own count, where the first reads as g.
  abbrev first : G → ℕ
  first g = a.wrong g 0 0

  abbrev second : G → (ℕ → List ℕ) → ℕ → ℕ
  second g o n = (b (found g)).wrong ((b (found g)).got o (n + a.width)) 0 0

  abbrev whole : G → (ℕ → List ℕ) → ℕ → ℕ
  whole g o n = a.wrong g 0 ((b (found g)).wrong ((b (found g)).got o (n + a.width)) (0 + a.width) 0)

  abbrev At : (ℕ → List ℕ) → ℕ → ℕ → Type 0
  At field n k = Completed (named_at both n) field (after n) (a.width + w) k

  whole_is : (g : G) (o : ℕ → List ℕ) (n : ℕ) → whole g o n ≡ near_of 0 (first g) (near_of (0 + a.width) (second g o n) 0)
  whole_is g o n = p.near g 0 _ ∙ ap (near_of 0 (first g)) ((q (found g)).near ((b (found g)).got o (n + a.width)) (0 + a.width) 0)

  in-first : (g : G) (o : ℕ → List ℕ) (n : ℕ) → 0 < first g → whole g o n ≡ first g
  in-first g o n h = whole_is g o n ∙ near-some 0 (first g) _ h ∙ zero-add (first g)

  past_first : (g : G) (o : ℕ → List ℕ) (n : ℕ) → first g ≡ 0 → whole g o n ≡ near_of a.width (second g o n) 0
  past_first g o n e = whole_is g o n ∙ near_none 0 (first g) _ e ∙ ap (λ (k : ℕ). near_of k (second g o n) 0) (zero-add a.width)

  -- Where the wrong field is: in the first row, in the second, or nowhere.
  data Where (g : G) (o : ℕ → List ℕ) (n : ℕ) : Type 0 where
    at_first : 0 < first g → whole g o n ≡ first g → Where g o n
    at_second : first g ≡ 0 → 0 < second g o n → whole g o n ≡ a.width + second g o n → Where g o n
    at_none : first g ≡ 0 → second g o n ≡ 0 → whole g o n ≡ 0 → Where g o n

  find : (g : G) (o : ℕ → List ℕ) (n : ℕ) → Where g o n
  find g o n = go (eqb (first g) 0) (eqb (second g o n) 0) refl refl
    where
      some : (k : ℕ) → (k ≡ 0 → ⊥) → 0 < k
      some k z = omega (arith, z)

      go : (s t : Bool) → eqb (first g) 0 ≡ s → eqb (second g o n) 0 ≡ t → Where g o n
      go false t e i = let h = some (first g) (eqb-false (first g) 0 e) in at_first h (in-first g o n h)
      go true false e i =
          let z = eqb-true (first g) 0 e in
          let h = some (second g o n) (eqb-false (second g o n) 0 i) in
          at_second z h (past_first g o n z ∙ near-some a.width (second g o n) 0 h)
      go true true e i =
          let z = eqb-true (first g) 0 e in
          let y = eqb-true (second g o n) 0 i in
          at_none z y (past_first g o n z ∙ near_none a.width (second g o n) 0 y)

  -- The second row's fields, in their places after the first row's.
  behind : (field other : ℕ → List ℕ) (n k : ℕ) → Agree field other (after n) (a.width + k) → Agree field other (after (n + a.width)) k
  behind field other n k h j i =
      let e : n + a.width + suc j ≡ n + suc (a.width + j) = omega arith in
      ap other e ∙ h (a.width + j) (omega arith) ∙ sym (ap field e)

  stays-both : (field other : ℕ → List ℕ) (n : ℕ) → 0 < whole (a.got field n) field n
      → Agree field other (after n) (whole (a.got field n) field n) → whole (a.got other n) other n ≡ whole (a.got field n) field n
  stays-both field other n h s = go (find (a.got field n) field n)
    where
      go : Where (a.got field n) field n → whole (a.got other n) other n ≡ whole (a.got field n) field n
      go (at_first i e) =
          let x = p.stays field other n i (λ j k. s j (omega (arith, e))) in
          in-first (a.got other n) other n (omega (arith, x)) ∙ x ∙ sym e
      go (at_second z i e) =
          let g = a.got field n in
          let t = behind field other n (second g field n) (λ j k. s j (omega (arith, e))) in
          let y = (q (found g)).stays field other (n + a.width) i t in
          let o = p.own field other n (λ j k. s j (omega (arith, e))) in
          ap (λ (v : G). whole v other n) o
          ∙ past_first g other n z
          ∙ ap (λ (v : ℕ). near_of a.width v 0) y
          ∙ near-some a.width (second g field n) 0 i
          ∙ sym e
      go (at_none z y e) = let f : ⊥ = omega (arith, e) in absurd f

  -- Fields that the first reads, and after them fields that the second then reads.
  joined : (x y : ℕ → List ℕ) (n : ℕ) → first (a.got x n) ≡ 0 → second (a.got x n) y n ≡ 0
      → whole (a.got (cut (n + a.width) x y) n) (cut (n + a.width) x y) n ≡ 0
  joined x y n e i =
      let c = cut (n + a.width) x y in
      let g = a.got x n in
      let o = p.own x c n (λ j h. cut_low (n + a.width) x y (n + suc j) (omega arith)) in
      let s = (q (found g)).own y c (n + a.width) (λ j h. cut_high (n + a.width) x y (n + a.width + suc j) (omega arith)) in
      ap (λ (v : G). whole v c n) o
      ∙ past_first g c n e
      ∙ near_none a.width (second g c n) 0 (ap (λ (v : H). (b (found g)).wrong v 0 0) s ∙ i)

  lower : (x y : ℕ → List ℕ) (n j : ℕ) → j < a.width → cut (n + a.width) x y (n + suc j) ≡ x (n + suc j)
  lower x y n j h = cut_low (n + a.width) x y (n + suc j) (omega arith)

  upper : (x y : ℕ → List ℕ) (n j : ℕ) → a.width ≤ j → cut (n + a.width) x y (n + suc j) ≡ y (n + a.width + suc (j - a.width))
  upper x y n j h =
      let e : n + suc j ≡ n + a.width + suc (j - a.width) = omega arith in
      cut_high (n + a.width) x y (n + suc j) (omega arith) ∙ ap y e

  -- The first row completed, and then the second from its start; or the second completed where the first stands.
  by_first : (field : ℕ → List ℕ) (n k : ℕ) → k ≤ suc a.width → Completed (named_at a n) field (after n) a.width k → At field n k
  by_first field n k few c =
      let key = found (a.got c.other n) in
      let d = (q key).fresh field (n + a.width) in
      record {
        other = cut (n + a.width) c.other d.other;
        before = λ j h. lower c.other d.other n j (omega arith) ∙ c.before j h;
        clean = λ j h i.
            go c.other d.other j (λ v. c.clean j v i)
            (λ v. d.clean (j - a.width) (omega (arith, v, wide key)) (omega arith)) (ltb j a.width) refl;
        accepted = joined c.other d.other n c.accepted d.accepted;
      }
    where
      go : (x y : ℕ → List ℕ) (j : ℕ) → (j < a.width → Clean (x (n + suc j)))
          → (a.width ≤ j → Clean (y (n + a.width + suc (j - a.width))))
          → (t : Bool) → ltb j a.width ≡ t → Clean (cut (n + a.width) x y (n + suc j))
      go x y j s u true e = let h = ltb-true j a.width e in subst Clean (sym (lower x y n j h)) (s h)
      go x y j s u false e = let h = ltb-false j a.width e in subst Clean (sym (upper x y n j h)) (u h)

  by-second : (field : ℕ → List ℕ) (n : ℕ) → first (a.got field n) ≡ 0 → 0 < second (a.got field n) field n
      → late field (n + a.width) → At field n (a.width + second (a.got field n) field n)
  by-second field n z some u =
      let key = found (a.got field n) in
      let d = (q key).completed field (n + a.width) some u in
      record {
        other = cut (n + a.width) field d.other;
        before = λ j h. go d.other j (λ v. d.before (j - a.width) (omega (arith, v))) (ltb j a.width) refl;
        clean = λ j h i.
            let c = d.clean (j - a.width) (omega (arith, wide key)) (omega arith) in
            subst Clean (sym (upper field d.other n j (omega arith))) c;
        accepted = joined field d.other n z d.accepted;
      }
    where
      go : (y : ℕ → List ℕ) (j : ℕ)
          → (a.width ≤ j → y (n + a.width + suc (j - a.width)) ≡ field (n + a.width + suc (j - a.width)))
          → (t : Bool) → ltb j a.width ≡ t → cut (n + a.width) field y (n + suc j) ≡ field (n + suc j)
      go y j u true e = lower field y n j (ltb-true j a.width e)
      go y j u false e =
          let h = ltb-false j a.width e in
          let i : n + a.width + suc (j - a.width) ≡ n + suc j = omega arith in
          upper field y n j h ∙ u h ∙ ap field i

  completed-both : (field : ℕ → List ℕ) (n : ℕ) → 0 < whole (a.got field n) field n → early field n × late field (n + a.width)
      → At field n (whole (a.got field n) field n)
  completed-both field n h u = go (find (a.got field n) field n)
    where
      go : Where (a.got field n) field n → At field n (whole (a.got field n) field n)
      go (at_first i e) =
          let c = p.completed field n i u.0 in
          subst (At field n) (sym e) (by_first field n (first (a.got field n)) (omega (arith, p.within field n)) c)
      go (at_second z i e) = subst (At field n) (sym e) (by-second field n z i u.1)
      go (at_none z y e) = let f : ⊥ = omega (arith, e) in absurd f

  within_both : (field : ℕ → List ℕ) (n : ℕ) → whole (a.got field n) field n ≤ a.width + w
  within_both field n = go (find (a.got field n) field n)
    where
      go : Where (a.got field n) field n → whole (a.got field n) field n ≤ a.width + w
      go (at_first i e) = omega (arith, e, p.within field n)
      go (at_second z i e) = let key = found (a.got field n) in omega (arith, e, (q key).within field (n + a.width), wide key)
      go (at_none z y e) = omega (arith, e)

  own-both : (field other : ℕ → List ℕ) (n : ℕ) → Agree field other (after n) (a.width + w) → both.got other n ≡ both.got field n
  own-both field other n h =
      let g = a.got field n in
      let x = p.own field other n (λ j k. h j (omega arith)) in
      let y = (q (found g)).own field other (n + a.width) (λ j k. behind field other n w h j (omega (arith, wide (found g)))) in
      ap (λ (v : G). (v, (b (found v)).got other (n + a.width))) x ∙ ap (λ (v : H). (g, v)) y

  near-both : (g : G × H) (n rest : ℕ) → both.wrong g n rest ≡ near_of n (both.wrong g 0 0) rest
  near-both g n rest =
      let u = a.wrong g.0 0 0 in
      let k = found g.0 in
      let v = (b k).wrong g.1 0 0 in
      p.near g.0 n _
      ∙ ap (near_of n u) ((q k).near g.1 (n + a.width) rest)
      ∙ near-near n a.width u v rest
      ∙ ap (λ (i : ℕ). near_of n i rest) (sym (p.near g.0 0 _ ∙ ap (near_of 0 u) ((q k).near g.1 (0 + a.width) 0)))

  pub prefix-depending-but : PrefixBut both (λ field n. early field n × late field (n + a.width))
  prefix-depending-but =
      record {
        near = near-both;
        own = own-both;
        within = within_both;
        stays = stays-both;
        completed = completed-both;
        fresh = λ field n. by_first field n 1 (omega arith) (p.fresh field n);
      }

-- Rows with this law, written like the rows themselves: with exceptions, and without.
infixr 30 ◌⊪◌
pub ◌⊪◌ : {G X H Y : Type 0} {a : Row G X} {b : Row H Y} {early late : (ℕ → List ℕ) → ℕ → Type 0} → PrefixBut a early → PrefixBut b late
    → PrefixBut (a ▷ b) (λ field n. early field n × late field (n + a.width))
◌⊪◌ {a = a} {b = b} p q =
    prefix-depending-but {K = Unit {0}} b.width b.most b.layout (λ g. tt) (λ v. tt) a (λ k. b) (λ k. refl) p (λ k. q)

pub prefix-depending : {K G X H Y : Type 0} (w m : ℕ) (y : Layout Y) (found : G → K) (held : X → K) (a : Row G X) (b : K → Row H Y)
    → ((k : K) → (b k).width ≡ w) → Prefix a → ((k : K) → Prefix (b k)) → Prefix (depending w m y found held a b)
prefix-depending w m y found held a b wide p q = eased (λ field n u. (tt, tt)) (prefix-depending-but w m y found held a b wide p q)

infixr 30 ◌⊩◌
pub ◌⊩◌ : {G X H Y : Type 0} {a : Row G X} {b : Row H Y} → Prefix a → Prefix b → Prefix (a ▷ b)
◌⊩◌ p q = eased (λ field n u. (tt, tt)) (p ⊪ q)

-- A value with its unit: the letter serves whether or not the value is there.
unit-one : (u : List ℕ) (there : Bool) (b : ℕ) → unit_wrong u there b ≤ 1
unfolding unit_wrong
unit-one u there b = go (same u (b ∷ []) || (not there && eqb (length u) 0))
  where
    go : (t : Bool) → cond t 0 1 ≤ 1
    go true = lit≤ tt
    go false = lit≤ tt

abbrev unit_form : ℕ → Bool → Form ℕ (Unit {0})
unit_form letter there = of_one 2 nothing (λ u. unit_wrong u there letter) (λ g. g) (λ g. tt) (λ v. 0) (λ v. unit_field there letter)

prefix-unit : (letter : ℕ) (there : Bool) → 44 < letter → letter < 92 → Prefix (unit_after letter there)
prefix-unit letter there low high =
    let clean : Clean (letter ∷ []) = ((low, high), tt) in
    let p = prefix-one {f = unit_form letter there}
    (prefix-single _ (λ u. unit-one u there letter) (letter ∷ []) clean (unit-letter there letter)) in
    record { near = p.near; own = p.own; within = p.within; stays = p.stays; completed = p.completed; fresh = p.fresh }

pub prefix-measured : {G X : Type 0} (letter : ℕ) (found : G → Bool) (held : X → Bool) (a : Row G X) → 44 < letter → letter < 92
    → Prefix a → Prefix (measured letter found held a)
prefix-measured letter found held a low high p =
    prefix-made (λ v. v.0) (λ v. (v, tt)) (depending 1 2 nothing found held a (unit_after letter)) (λ v. refl)
    (prefix-depending 1 2 nothing found held a (unit_after letter) (λ k. refl) p (λ k. prefix-unit letter k low high))
