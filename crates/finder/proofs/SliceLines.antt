-- The slice finder finds the same lines as the byte finder: it folds the same step, and lines to come depend on the past by its unfinished
-- line alone.
use Prim.Native.Nat.{ℕ, ◌+◌, ◌-◌, ◌≤◌, ◌<◌}
use mathlib.Core.Path.{◌≡◌, refl, sym, ◌∙◌, ap}
use mathlib.Core.List.{List, [], ◌∷◌, ◌++◌, append_assoc, append-nil}
use mathlib.Core.Bool.{Bool, true, false, cond, true≢false, false≢true, and-false}
use mathlib.Core.Logic.{◌⊎◌, inl, inr}
use native.Mathlib.Omega.{arith}
use lib.ListN.{length, take, drop, length-append, length-drop, drop_of_length-le, take-append-drop}
use lib.Seq.{take-add, take_at, drop_at, drop-append-le, drop-drop, length-take-le}
use lib.Dec.{leb, eqb}
use borrow.Author.Tests.{le-leb, lt-leb, leb-false}
use Rattle.finder.specs.declared.Found.{Found}
use Rattle.finder.specs.Finder.{has, open_line, after_last, from_last, given, given_all, held_next, ends_here, held_after}
use Rattle.finder.specs.Slice.{found_from, found_at}
use Rattle.finder.proofs.Laws.{held-le, ends-le, found-ind}
use Rattle.finder.proofs.Open.{neither, open_snoc, open-dollar, open-lf, open_more, OpenBy, open_is}
use Rattle.finder.proofs.History.{held-snoc, held-open, finds, given-last, given_is}

given-none : (p : List ℕ) (b : ℕ) → ends_here (held_after 0 p) b < 1 → given p b ≡ []
given-none p b h = no_bytes (given p b) (rw (finds p b) at h)
  where
    no_bytes : (l : List ℕ) → length l < 1 → l ≡ []
    no_bytes [] h = refl
    no_bytes (b ∷ l) h = let z : ⊥ = omega arith in absurd z

-- All lines, where the next byte gives out nothing, and where it gives out a line.
module _ (p : List ℕ) (b : ℕ) (t : List ℕ) where
  all_none : given p b ≡ [] → given_all p (b ∷ t) ≡ given_all (p ++ b ∷ []) t
  unfolding given_all
  all_none e = simp e

  all-line : 1 ≤ length (given p b) → given_all p (b ∷ t) ≡ given p b ∷ given_all (p ++ b ∷ []) t
  unfolding given_all
  all-line h = simp (le-leb 1 (length (given p b)) h)

-- The lines to come depend on the bytes before by their unfinished line alone.
pub same-open : (p q t : List ℕ) → open_line p ≡ open_line q → given_all p t ≡ given_all q t
unfolding given_all given
same-open p q [] e = refl
same-open p q (b ∷ t) e = rw (e, same-open (p ++ b ∷ []) (q ++ b ∷ []) t (open_snoc p b ∙ rw e (sym (open_snoc q b))))

-- An unfinished line of over 81 bytes is as good as none.
pub too_long : (p q t : List ℕ) → 81 < length (open_line p) → open_line q ≡ [] → given_all p t ≡ given_all q t
unfolding given_all given
too_long p q [] h e = refl
too_long p q (b ∷ t) h e = simp (lt-leb (length (open_line p) + 1) 82 (omega arith), e, and-false)
    (next (eqb b 36) refl (eqb b 10) refl (too_long (p ++ b ∷ []) (q ++ b ∷ []) t))
  where
    next : (u : Bool) → eqb b 36 ≡ u → (v : Bool) → eqb b 10 ≡ v
        → (81 < length (open_line (p ++ b ∷ [])) → open_line (q ++ b ∷ []) ≡ [] → given_all (p ++ b ∷ []) t ≡ given_all (q ++ b ∷ []) t)
        → given_all (p ++ b ∷ []) t ≡ given_all (q ++ b ∷ []) t
    next true d v l ih = same-open (p ++ b ∷ []) (q ++ b ∷ []) t (rw (open_snoc p b, open_snoc q b) (simp d))
    next false d true l ih = same-open (p ++ b ∷ []) (q ++ b ∷ []) t (rw (open_snoc p b, open_snoc q b) (simp (d, l)))
    next false d false l ih =
        ih (rw (open_snoc p b) (simp (d, l, le-leb 1 (length (open_line p)) (omega arith), length-append) (omega arith)))
        (rw (open_snoc q b) (simp (d, l, e)))

-- The lines of bytes and of more bytes after them.
pub all_append : (p q t : List ℕ) → given_all p (q ++ t) ≡ given_all p q ++ given_all (p ++ q) t
unfolding given_all
all_append p [] t = rw append-nil
all_append p (b ∷ q) t = rw (all_append (p ++ b ∷ []) q t, append_assoc) (go (leb 1 (length (given p b))))
  where
    go : (u : Bool)
        → cond u (given p b ∷ (given_all (p ++ b ∷ []) q ++ given_all (p ++ b ∷ q) t)) (given_all (p ++ b ∷ []) q ++ given_all (p ++ b ∷ q) t)
        ≡ cond u (given p b ∷ given_all (p ++ b ∷ []) q) (given_all (p ++ b ∷ []) q) ++ given_all (p ++ b ∷ q) t
    go true = refl
    go false = refl

-- Bytes without LF give out no line.
no-lf-none : (p m : List ℕ) → has 10 m ≡ false → given_all p m ≡ []
unfolding given_all has given
no-lf-none p [] l = refl
no-lf-none p (b ∷ m) l = let n = neither (eqb b 10) (has 10 m) l in simp n.0 (no-lf-none (p ++ b ∷ []) m n.1)

-- The slice finder finds none only where no line is given out.
none_from : (n i : ℕ) (t p : List ℕ) → held_after 0 p ≡ n → (found_from n i t).line ≡ false → given_all p t ≡ []
unfolding given_all
none_from =
    found-ind (λ n i t r. (p : List ℕ) → held_after 0 p ≡ n → r.line ≡ false → given_all p t ≡ []) (λ n i p e f. refl)
    (λ n i b t k p e f. absurd (true≢false f))
    (λ n i b t r k x p e f. all_none p b t (given-none p b (rw e k)) ∙ x (p ++ b ∷ []) (held-snoc 0 p b ∙ rw e) f)

-- Where none is found, the bytes held begin at start, and end is the end.
none-ends : (n i : ℕ) (t : List ℕ) → (found_from n i t).line ≡ false → ((found_from n i t).start ≡ i + length t - held_after n t)
    × ((found_from n i t).end ≡ i + length t)
unfolding held_after
none-ends =
    found-ind (λ n i t r. r.line ≡ false → (r.start ≡ i + length t - held_after n t) × (r.end ≡ i + length t))
    (λ n i f. (omega arith, omega arith))
    (λ n i b t k f. absurd (true≢false f)) (λ n i b t r k x f. let y = x f in (omega arith, omega arith))

-- start is not before the place, nor past end, and end is within the bytes.
from-within : (a n i : ℕ) (t : List ℕ) → a + n ≤ i → (a ≤ (found_from n i t).start) × ((found_from n i t).start ≤ (found_from n i t).end)
    × ((found_from n i t).end ≤ i + length t)
from-within a =
    found-ind (λ n i t r. a + n ≤ i → (a ≤ r.start) × (r.start ≤ r.end) × (r.end ≤ i + length t))
    (λ n i h. (omega arith, omega arith, omega arith)) (λ n i b t k h. let l = ends-le n b in (omega arith, omega arith, omega arith))
    (λ n i b t r k x h. let l = held-le n b in let y = x (omega arith) in (omega arith, omega arith, omega arith))

-- The byte b at place i: the bytes up to it, and those behind it.
module _ (s : List ℕ) (i b : ℕ) (t : List ℕ) (e : drop i s ≡ b ∷ t) where
  there : i < length s
  there = omega (arith, ap length e, length-drop i s)

  up_to : take (i + 1) s ≡ take i s ++ b ∷ []
  up_to = take-add i 1 s ∙ rw e

  behind : drop (i + 1) s ≡ t
  behind = sym (drop-drop 1 i s) ∙ ap (drop 1) e

-- A line that the slice finder finds from `at` on: it is the next one given out, and nothing is unfinished at its end.
pub record NextLine (s : List ℕ) (at : ℕ) (r : Found) : Type 0 where
  pub onward : at < r.end
  pub within : r.end ≤ length s
  pub first : given_all (take at s) (drop at s) ≡ take (r.end - r.start) (drop r.start s) ∷ given_all (take r.end s) (drop r.end s)
  pub shut : open_line (take r.end s) ≡ []

drop-take : (s : List ℕ) (k n : ℕ) → k ≤ n → n ≤ length s → take (n - k) (drop k s) ≡ drop k (take n s)
drop-take s k n h l =
    let e : length (take n s) ≡ n = length-take-le n s l in
    let k-fits : k ≤ length (take n s) = omega arith in
    ap (λ (x : List ℕ). take (n - k) (drop k x)) (sym (take-append-drop n s))
    ∙ rw (drop-append-le k (take n s) (drop n s) k-fits) (take_at (drop k (take n s)) (drop n s) (n - k) (rw (length-drop, e)))

line-here : (s : List ℕ) (i b : ℕ) (t : List ℕ) → drop i s ≡ b ∷ t → 1 ≤ ends_here (held_after 0 (take i s)) b
    → NextLine s i (record { line = true; start = i + 1 - ends_here (held_after 0 (take i s)) b; end = i + 1 })
line-here s i b t e k =
    let p = take i s in
    let h = there s i b t e in
    let u = up_to s i b t e in
    let n : length (take i s) ≡ i = length-take-le i s (omega arith) in
    let l : 1 ≤ length (given p b) = rw (finds p b) at k in
    let c : take (i + 1 - (i + 1 - length (given p b))) (drop (i + 1 - length (given p b)) s) ≡ given p b =
    drop-take s (i + 1 - length (given p b)) (i + 1) (omega arith) (omega arith) ∙ rw u (sym (rw n at (given-last p b))) in
    record {
      onward = omega arith;
      within = omega arith;
      first = rw (finds p b, c, e, u, behind s i b t e) (all-line p b t l);
      shut = rw (u, (given_is p b l).lf) (open-lf p);
    }

line-from : (s : List ℕ) (n i : ℕ) (t : List ℕ) → drop i s ≡ t → held_after 0 (take i s) ≡ n → (found_from n i t).line ≡ true
    → NextLine s i (found_from n i t)
line-from s =
    found-ind (λ n i t r. drop i s ≡ t → held_after 0 (take i s) ≡ n → r.line ≡ true → NextLine s i r) (λ n i e h f. absurd (false≢true f))
    (λ n i b t k e h f. rw (← h) (line-here s i b t e (rw h k))) more
  where
    more : (n i b : ℕ) (t : List ℕ) (r : Found) → ends_here n b < 1
        → (drop (i + 1) s ≡ t → held_after 0 (take (i + 1) s) ≡ held_next n b → r.line ≡ true → NextLine s (i + 1) r)
        → drop i s ≡ b ∷ t → held_after 0 (take i s) ≡ n → r.line ≡ true → NextLine s i r
    more n i b t r k x e h f =
        let u = up_to s i b t e in
        let v = behind s i b t e in
        let y = x v (ap (held_after 0) u ∙ held-snoc 0 (take i s) b ∙ rw h) f in
        record {
          onward = omega (arith, y.onward);
          within = y.within;
          first = rw e (all_none (take i s) b t (given-none (take i s) b (rw h k))) ∙ rw (u, v) at y.first;
          shut = y.shut;
        }

module _ (s : List ℕ) (at : ℕ) (h : at ≤ length s) where
  -- start and end are within the bytes from `at` on.
  pub slice-within : (at ≤ (found_at s at).start) × ((found_at s at).start ≤ (found_at s at).end) × ((found_at s at).end ≤ length s)
  unfolding found_at
  slice-within = let x = from-within at 0 at (drop at s) (omega arith) in (x.0, x.1, omega (arith, length-drop at s, x.2))

  -- Where none is found, end is the end of the bytes.
  pub slice-end : (found_at s at).line ≡ false → (found_at s at).end ≡ length s
  unfolding found_at
  slice-end f = let x = none-ends 0 at (drop at s) f in omega (arith, length-drop at s, x.1)

open-nil : open_line [] ≡ []
unfolding open_line after_last from_last
open-nil = refl

held_none : (p : List ℕ) → open_line p ≡ [] → held_after 0 p ≡ 0
held_none p e = held-open p ∙ rw e

module _ (s : List ℕ) (at : ℕ) (o : open_line (take at s) ≡ []) where
  -- A line that the slice finder finds is the next line of the byte finder, and the same holds again from end on.
  pub slice-line : (found_at s at).line ≡ true → NextLine s at (found_at s at)
  unfolding found_at
  slice-line f = line-from s 0 at (drop at s) refl (held_none (take at s) o) f

  -- Where the slice finder finds none, the byte finder gives out none.
  pub slice-none : (found_at s at).line ≡ false → given_all (take at s) (drop at s) ≡ []
  unfolding found_at
  slice-none f = none_from 0 at (drop at s) (take at s) (held_none (take at s) o) f

held-short : (n : ℕ) (q : List ℕ) → held_after n q ≤ n + length q
unfolding held_after
held-short n [] = omega arith
held-short n (b ∷ q) = omega (arith, held-short (held_next n b) q, held-le n b)

-- After any bytes, those held alone lead to the same lines.
keep-held : (q t : List ℕ) → given_all q t ≡ given_all [] (drop (length q - held_after 0 q) q ++ t)
unfolding has
keep-held q t = go (open_is q)
  where
    none : held_after 0 q ≡ 0 → given_all q t ≡ given_all [] t → given_all q t ≡ given_all [] (drop (length q - held_after 0 q) q ++ t)
    none e x = let l : length q ≤ length q - 0 = omega arith in rw (e, drop_of_length-le q l) x

    go : (open_line q ≡ []) ⊎ OpenBy q → given_all q t ≡ given_all [] (drop (length q - held_after 0 q) q ++ t)
    go (inl e) = none (held_none q e) (same-open q [] t (e ∙ sym open-nil))
    go (inr o) = fits (leb (length (open_line q)) 81) refl
      where
        fits : (u : Bool) → leb (length (open_line q)) 81 ≡ u → given_all q t ≡ given_all [] (drop (length q - held_after 0 q) q ++ t)
        fits false k = none (held-open q ∙ simp k) (too_long q [] t (leb-false (length (open_line q)) 81 k) open-nil)
        fits true k =
            let l : List ℕ = 36 ∷ o.inner in
            let n : held_after 0 q ≡ length l = held-open q ∙ simp k (ap length o.line) in
            let m : length q ≡ length o.past + length l = simp length-append at (ap length o.bytes) in
            let d : drop (length q - held_after 0 q) q ≡ l =
            ap (drop (length q - held_after 0 q)) o.bytes ∙ drop_at o.past l (length q - held_after 0 q) (omega arith) in
            let g : open_line l ≡ l = open_more (36 ∷ []) (36 ∷ []) o.inner (open-dollar []) (omega arith) o.no-dollar o.no-lf in
            same-open q l t (o.line ∙ sym g) ∙ rw d (sym (rw (no-lf-none [] l o.no-lf) at (all_append [] l t)))

-- A program that fetches more where none is found, and keeps only the bytes from start on, misses no line and adds none.
pub slice-rest : (s : List ℕ) (at : ℕ) → (found_at s at).line ≡ false → (t : List ℕ)
    → given_all [] (drop at s ++ t) ≡ given_all [] (drop (found_at s at).start s ++ t)
unfolding found_at held_after
slice-rest s at f t =
    let q = drop at s in
    let b : (found_from 0 at q).start ≡ at + (length q - held_after 0 q) = omega (arith, (none-ends 0 at q f).0, held-short 0 q) in
    rw (b, ← drop-drop (length q - held_after 0 q) at s) ((rw (none_from 0 at q [] refl f) at (all_append [] q t)) ∙ keep-held q t)
