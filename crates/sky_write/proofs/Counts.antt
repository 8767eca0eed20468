-- How many lines and entries up to 36 satellites take, in numbers, and which of a table's places a line's entries are.
use Prim.Native.Nat.{◌*◌, ◌+◌, ◌-◌, ◌<◌, ◌≤◌, suc, zero, ℕ}
use mathlib.Core.Bool.{Bool, false, true}
use mathlib.Core.List.{[], ◌∷◌, List, map}
use mathlib.Core.Path.{◌∙◌, ◌≡◌, ap, refl, sym}
use native.Mathlib.Nat.{add-zero}
use native.Mathlib.Omega.{arith}
use lib.Dec.{lit<, ltb}
use lib.ListN.{drop, get_or, length, length-drop, length-map, length-take, take}
use lib.Seq.{drop-nil, get_or-drop, get_or-take, length-take-le, take_all, take-nil, take-take}
use borrow.Author.Tests.{ltb-false, ltb-true}
use Rattle.form.proofs.Lists.{all-four}
use Rattle.sky.specs.Group.{entries_at, lines_for}
use Rattle.sky.proofs.Numbers.{entries-at, nine-lines, room, some-line}

-- At least one line, enough lines for all, and nine for 36.
pub record Lines (n m : ℕ) : Type 0 where
  pub one : 1 ≤ m
  pub all : n ≤ 4 * m
  pub nine : n ≤ 36 → m ≤ 9

pub lines_are : (n : ℕ) → Lines n (lines_for n)
lines_are n = record { one = some-line n; all = room n; nine = nine-lines n }

-- What is left for a line, at most four.
pub record Fewer (left c : ℕ) : Type 0 where
  pub four : c ≤ 4
  pub most : c ≤ left
  pub rest : c < 4 → c ≡ left

pub entries-are : (n k : ℕ) → Fewer (n - 4 * (k - 1)) (entries_at n k)
entries-are n k =
    let e = entries-at n k in
    record { four = omega (arith, e); most = omega (arith, e); rest = λ i. omega (arith, e, i) }

drop-take : {A : Type 0} (a n : ℕ) (l : List A) → drop a (take n l) ≡ take (n - a) (drop a l)
drop-take zero n l = let e : n - 0 ≡ n = omega arith in rw e
drop-take (suc a) zero l = drop-nil (suc a) ∙ sym (let e : 0 - suc a ≡ 0 = omega arith in rw e)
drop-take (suc a) (suc n) [] = drop-nil (suc a) ∙ sym (take-nil (suc n - suc a))
drop-take (suc a) (suc n) (x ∷ l) = let e : suc n - suc a ≡ n - a = omega arith in drop-take a n l ∙ sym (rw e)

-- The used entries of a line are the next four of the table's used ones, or those that are left.
pub used-part : {A : Type 0} (l : List A) (n a c : ℕ) → Fewer (n - a) c → take c (take 4 (drop a l)) ≡ take 4 (drop a (take n l))
used-part l n a c f = take-take c 4 (drop a l) f.four ∙ go (ltb c 4) refl ∙ sym (ap (take 4) (drop-take a n l))
  where
    go : (t : Bool) → ltb c 4 ≡ t → take c (drop a l) ≡ take 4 (take (n - a) (drop a l))
    go true e =
        let q : c ≡ n - a = f.rest (ltb-true c 4 e) in
        ap (λ (m : ℕ). take m (drop a l)) q
        ∙ sym (take_all 4 (take (n - a) (drop a l)) (omega (arith, length-take (n - a) (drop a l), q, f.four)))
    go false e =
        let h : 4 ≤ c = ltb-false c 4 e in
        let q : c ≡ 4 = omega (arith, h, f.four) in
        ap (λ (m : ℕ). take m (drop a l)) q ∙ sym (take-take 4 (n - a) (drop a l) (omega (arith, h, f.most)))

-- The four elements from place a on.
pub four-at : {A : Type 0} (d : A) (l : List A) (a : ℕ) → a + 4 ≤ length l → get_or l a d ∷ get_or l (a + 1) d ∷ get_or l (a + 2) d
    ∷ get_or l (a + 3) d ∷ [] ≡ take 4 (drop a l)
four-at d l a h =
    let n : length (take 4 (drop a l)) ≡ 4 = length-take-le 4 (drop a l) (omega (arith, h, length-drop a l)) in
    rw (at 0 (lit< tt), at 1 (lit< tt), at 2 (lit< tt), at 3 (lit< tt), add-zero a) at (all-four d (take 4 (drop a l)) n)
  where
    at : (j : ℕ) → j < 4 → get_or (take 4 (drop a l)) j d ≡ get_or l (a + j) d
    at j i = get_or-take 4 (drop a l) j d i ∙ get_or-drop a l j d

-- What is known of a table's places is known of them as they are held.
pub length-mapped : (A B : Type 0) (f : A → B) (l : List A) (n : ℕ) → length (map f l) ≡ n → length l ≡ n
length-mapped A B f l n e = sym (length-map l f) ∙ e
