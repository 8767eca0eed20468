-- What fits behind an entry: the tests taken apart and put together again, and the tests that the code makes without a sum that could wrap.
use Prim.Native.Nat.{◌+◌, ◌-◌, ◌<◌, ◌≤◌, ℕ}
use mathlib.Core.Path.{◌∙◌, ◌≡◌, refl, sym}
use mathlib.Core.Bool.{◌&&◌, ◌||◌, Bool, false, true}
use mathlib.Core.List.{[], ◌∷◌}
use native.Mathlib.Omega.{arith}
use lib.Dec.{leb, ltb}
use borrow.Author.Tests.{le-leb, le-ltb, leb-false, leb-true, lt-leb, lt-ltb, ltb-false, ltb-true}
use Rattle.digits.proofs.Bools.{and_left, and_right, true-false}
use Rattle.index_sevens.specs.Sevens.{most}
use Rattle.index_sevens.proofs.Groups.{sevens-small}
use Rattle.index.specs.declared.Entry.{Entry}
use Rattle.index.specs.declared.Next.TheVariants as N
use Rattle.index.specs.Index.{end_of, entry_behind, entry_bytes, fits}
use Rattle.digits.specs.Pick.{pick}

-- A sum against a limit, tested by a difference.
pub sum-within : (a b m : ℕ) → a ≤ m → leb b (m - a) ≡ leb (a + b) m
sum-within a b m h = go (leb b (m - a)) refl
  where
    go : (t : Bool) → leb b (m - a) ≡ t → t ≡ leb (a + b) m
    go true e = sym (le-leb (a + b) m (omega (arith, leb-true b (m - a) e)))
    go false e = sym (lt-leb (a + b) m (omega (arith, leb-false b (m - a) e)))

-- What an entry that fits keeps.
pub record Fits (before e : Entry) : Type 0 where
  pub later : before.number < e.number
  pub number : e.number ≤ most
  pub behind : end_of before ≤ e.offset
  pub least : 7 ≤ e.length
  pub longest : e.length ≤ 82
  pub ends : end_of e ≤ most

pub fits-is : (before e : Entry) → fits before e ≡ true → Fits before e
unfolding fits
fits-is before e t =
    let b = and_right (ltb before.number e.number) _ t in
    let c = and_right (leb e.number most) _ b in
    let d = and_right (leb (end_of before) e.offset) _ c in
    let f = and_right (leb 7 e.length) _ d in
    record {
      later = ltb-true _ _ (and_left _ _ t);
      number = leb-true _ _ (and_left _ _ b);
      behind = leb-true _ _ (and_left _ _ c);
      least = leb-true _ _ (and_left _ _ d);
      longest = leb-true _ _ (and_left _ _ f);
      ends = leb-true _ _ (and_right (leb e.length 82) _ f);
    }

pub is-fits : (before e : Entry) → Fits before e → fits before e ≡ true
unfolding fits
is-fits before e f =
    rw (lt-ltb _ _ f.later, le-leb _ _ f.number, le-leb _ _ f.behind, le-leb _ _ f.least, le-leb _ _ f.longest)
    (rw (le-leb _ _ f.ends))

not-fits : (before e : Entry) → (Fits before e → ⊥) → fits before e ≡ false
not-fits before e n = go (fits before e) refl
  where
    go : (t : Bool) → fits before e ≡ t → t ≡ false
    go true f = absurd (n (fits-is before e f))
    go false f = refl

-- Three numbers within the limit, tested at once.
pub all-low : (a b c : ℕ) → ltb most a || (ltb most b || ltb most c) ≡ false → (a ≤ most) × ((b ≤ most) × (c ≤ most))
all-low a b c e = go (ltb most a) refl (ltb most b) refl (ltb most c) refl e
  where
    go : (x : Bool) → ltb most a ≡ x → (y : Bool) → ltb most b ≡ y → (z : Bool) → ltb most c ≡ z → x || (y || z) ≡ false
        → (a ≤ most) × ((b ≤ most) × (c ≤ most))
    go false f false g false h e = (ltb-false most a f, (ltb-false most b g, ltb-false most c h))
    go false f false g true h e = let n : ◌≡◌ {A = ℕ} 0 1 = cc in let w : ⊥ = omega arith in absurd w
    go false f true g z h e = let n : ◌≡◌ {A = ℕ} 0 1 = cc in let w : ⊥ = omega arith in absurd w
    go true f y g z h e = let n : ◌≡◌ {A = ℕ} 0 1 = cc in let w : ⊥ = omega arith in absurd w

pub some-high : (a b c : ℕ) → ltb most a || (ltb most b || ltb most c) ≡ true → a ≤ most → b ≤ most → c ≤ most → ⊥
some-high a b c e i j k =
    let none : ltb most a || (ltb most b || ltb most c) ≡ false = rw (le-ltb most a i, le-ltb most b j, le-ltb most c k) in
    true-false e none

-- Behind an entry that lies too high nothing fits, and nothing that lies too high fits.
pub fits-high : (before e : Entry) → ltb most before.offset || (ltb most before.length || ltb most e.offset) ≡ true → false ≡
    fits before e
fits-high before e h =
    sym (not-fits before e (λ f. some-high before.offset before.length e.offset h (omega (arith, f.behind, f.ends))
    (omega (arith, f.behind, f.ends)) (omega (arith, f.ends))))

pub fits_low : (before e : Entry) → e.offset ≤ most
    → (ltb before.number e.number
    && (leb e.number most
    && (leb (end_of before) e.offset
    && (leb 7 e.length
    && (leb e.length 82
    && leb e.length (most - e.offset)))))) ≡ fits before e
unfolding fits
fits_low before e h = rw (sum-within e.offset e.length most h)

-- The entry that three numbers make.
module _ (before : Entry) (gap skip size at : ℕ) where
  made-test : fits before (entry_behind before gap skip size)
      ≡ (ltb 0 gap && (leb (before.number + gap) most && (leb 7 size && (leb size 82 && leb (end_of before + skip + size) most))))
  unfolding fits
  made-test = rw (more before.number gap, le-leb (end_of before) (end_of before + skip) (omega arith))
    where
      more : (n k : ℕ) → ltb n (n + k) ≡ ltb 0 k
      more n k = go (ltb 0 k) refl
        where
          go : (t : Bool) → ltb 0 k ≡ t → ltb n (n + k) ≡ t
          go true e = lt-ltb n (n + k) (omega (arith, ltb-true 0 k e))
          go false e = le-ltb n (n + k) (omega (arith, ltb-false 0 k e))

  pub made-high : ltb most before.number || (ltb most before.offset || ltb most before.length) ≡ true
      → N.Bad ≡ pick (fits before (entry_behind before gap skip size)) (N.Is (entry_behind before gap skip size) at) N.Bad
  made-high h =
      rw (not-fits before (entry_behind before gap skip size)
      (λ f. some-high before.number before.offset before.length h (omega (arith, f.number)) (omega (arith, f.ends))
      (omega (arith, f.ends))))

  pub made-fits : (ltb 0 gap && (leb (before.number + gap) most &&
      (leb 7 size && (leb size 82 && leb (end_of before + skip + size) most)))) ≡ true
      → N.Is (entry_behind before gap skip size) at ≡ pick (fits before (entry_behind before gap skip size))
      (N.Is (entry_behind before gap skip size) at) N.Bad
  made-fits h = rw (made-test ∙ h)

  pub made-not : (ltb 0 gap && (leb (before.number + gap) most &&
      (leb 7 size && (leb size 82 && leb (end_of before + skip + size) most)))) ≡ false
      → N.Bad ≡ pick (fits before (entry_behind before gap skip size)) (N.Is (entry_behind before gap skip size) at) N.Bad
  made-not h = rw (made-test ∙ h)

-- The gap from the end of the line before, taken away in two steps.
pub skip_is : (e before : Entry) {a b : ℕ} → a ≡ e.offset - before.offset → b ≡ a - before.length → b ≡ e.offset - end_of before
skip_is e before p q = omega arith

-- An entry whose three numbers take a byte each.
pub three-small : (before e : Entry) (gap skip : ℕ) → gap ≡ e.number - before.number → skip ≡ e.offset - end_of before
    → gap < 128 → skip < 128 → e.length < 128 → gap ∷ (skip ∷ (e.length ∷ [])) ≡ entry_bytes before e
unfolding entry_bytes
three-small before e gap skip g s i j k = rw (← g, ← s, sevens-small gap i, sevens-small skip j, sevens-small e.length k)

pub small-three : (a b c : ℕ) → ltb a 128 && (ltb b 128 && ltb c 128) ≡ true → (a < 128) × ((b < 128) × (c < 128))
small-three a b c e =
    let f = and_right (ltb a 128) _ e in
    (ltb-true _ _ (and_left _ _ e), (ltb-true _ _ (and_left _ _ f), ltb-true _ _ (and_right (ltb b 128) _ f)))
