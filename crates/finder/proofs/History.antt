-- The finder over any history of bytes: what it holds is the length of the unfinished line, so its step says what the document says.
use Prim.Native.Nat.{ℕ, suc, ◌+◌, ◌-◌, ◌≤◌, ◌<◌}
use mathlib.Core.Path.{◌≡◌, refl, sym, ◌∙◌, ap}
use mathlib.Core.List.{List, [], ◌∷◌, ◌++◌, append_assoc}
use mathlib.Core.Bool.{Bool, true, false, cond, ◌&&◌, and-false}
use mathlib.Core.Logic.{◌⊎◌, inl, inr, ⊎_elim}
use native.Mathlib.Omega.{arith}
use lib.ListN.{length, drop, length-append, drop_of_length-le}
use lib.Seq.{drop_at}
use lib.Dec.{leb, eqb}
use borrow.Author.Tests.{le-leb, lt-leb, leb-true, leb-false, eqb-true}
use Rattle.finder.specs.Finder.{has, after_last, from_last, open_line, given, held_next, ends_here, held_after}
use Rattle.finder.proofs.Open.{snoc-ind, open_next, open_snoc, open-dollar, open_more, OpenBy, open_is}

-- What is held of an unfinished line of n bytes: its length, and nothing once it cannot end within 82 bytes.
abbrev kept : ℕ → ℕ
kept n = cond (leb n 81) n 0

kept-cases : (n : ℕ) → ((n ≤ 81) × (kept n ≡ n)) ⊎ ((81 < n) × (kept n ≡ 0))
kept-cases n = go (leb n 81) refl
  where
    go : (t : Bool) → leb n 81 ≡ t → ((n ≤ 81) × (cond t n 0 ≡ n)) ⊎ ((81 < n) × (cond t n 0 ≡ 0))
    go true e = inl (leb-true n 81 e, refl)
    go false e = inr (leb-false n 81 e, refl)

-- The step on the length held is the step on the unfinished line.
kept_next : (o : List ℕ) (b : ℕ) → held_next (kept (length o)) b ≡ kept (length (open_next o b))
unfolding held_next
kept_next o b = go (eqb b 36) refl (eqb b 10) refl (leb 1 (length o)) refl (leb (length o) 80) refl
  where
    go : (t : Bool) → eqb b 36 ≡ t → (u : Bool) → eqb b 10 ≡ u → (v : Bool) → leb 1 (length o) ≡ v → (w : Bool) → leb (length o) 80 ≡ w
        → held_next (kept (length o)) b ≡ kept (length (open_next o b))
    go true d u l v p w q = simp d
    go false d true l v p w q = simp (d, l)
    go false d false l false p w q = let h = leb-false 1 (length o) p in simp (d, l, p, le-leb (length o) 81 (omega arith))
    go false d false l true p true q =
        let h = leb-true (length o) 80 q in
        simp (d, l, p, q, le-leb (length o) 81 (omega arith), length-append, le-leb (length o + 1) 81 (omega arith))
    go false d false l true p false q =
        let h = leb-false (length o) 80 q in
        ⊎_elim (λ k. ap (λ n. held_next n b) k.1 ∙ simp (d, l, p, q, length-append, lt-leb (length o + 1) 81 (omega arith)))
        (λ k. ap (λ n. held_next n b) k.1 ∙ simp (d, l, p, length-append, lt-leb (length o + 1) 81 (omega arith))) (kept-cases (length o))

-- What is held after one byte more is one step on.
pub held-snoc : (n : ℕ) (h : List ℕ) (b : ℕ) → held_after n (h ++ b ∷ []) ≡ held_next (held_after n h) b
unfolding held_after
held-snoc n [] b = refl
held-snoc n (c ∷ h) b = held-snoc (held_next n c) h b

-- What the finder holds after any history: the length of the unfinished line, where that is at most 81.
pub held-open : (h : List ℕ) → held_after 0 h ≡ cond (leb (length (open_line h)) 81) (length (open_line h)) 0
unfolding held_after open_line from_last after_last
held-open =
    snoc-ind (λ h. held_after 0 h ≡ kept (length (open_line h))) refl
    (λ h b e. held-snoc 0 h b ∙ ap (λ n. held_next n b) e ∙ kept_next (open_line h) b ∙ ap (λ o. kept (length o)) (sym (open_snoc h b)))

-- What is given out at b, from the unfinished line alone.
abbrev given_of : List ℕ → ℕ → List ℕ
given_of o b = cond (eqb b 10 && (leb 1 (length o) && leb (length o + 1) 82)) (o ++ b ∷ []) []

kept-ends : (o : List ℕ) (b : ℕ) → ends_here (kept (length o)) b ≡ length (given_of o b)
unfolding ends_here
kept-ends o b =
    ⊎_elim (λ k. ap (λ n. ends_here n b) k.1
    ∙ simp (le-leb (length o) 81 k.0, le-leb (length o + 1) 82 (omega arith)) (go (eqb b 10 && (leb 1 (length o) && true))))
    (λ k. ap (λ n. ends_here n b) k.1 ∙ simp (lt-leb (length o + 1) 82 (omega arith), and-false)) (kept-cases (length o))
  where
    go : (t : Bool) → cond t (length o + 1) 0 ≡ length (cond t (o ++ b ∷ []) [])
    go true = simp length-append
    go false = refl

-- At each byte of any history, the step folded from the start says the length of the line that the document gives out there.
pub finds : (h : List ℕ) (b : ℕ) → ends_here (held_after 0 h) b ≡ length (given h b)
unfolding ends_here given
finds h b = ap (λ n. ends_here n b) (held-open h) ∙ kept-ends (open_line h) b

-- A `$`, then bytes without `$` and LF, then LF, of at most 82 bytes in all, is given out after any history.
pub given-form : (h m : List ℕ) → has 36 m ≡ false → has 10 m ≡ false → length m + 2 ≤ 82 → given (h ++ 36 ∷ m) 10 ≡ 36 ∷ m ++ 10 ∷ []
unfolding given
given-form h m d l k =
    let o : open_line (h ++ 36 ∷ m) ≡ 36 ∷ m = rw append_assoc at (open_more (h ++ 36 ∷ []) (36 ∷ []) m (open-dollar h) (omega arith) d l) in
    ap (λ (o : List ℕ). given_of o 10) o ∙ simp (le-leb 1 (suc (length m)) (omega arith), le-leb (suc (length m) + 1) 82 (omega arith))

-- How a line that is given out at b stands at the end of the bytes h.
pub record GivenBy (h : List ℕ) (b : ℕ) : Type 0 where
  pub past : List ℕ
  pub inner : List ℕ
  pub bytes : h ≡ past ++ 36 ∷ inner
  pub no-dollar : has 36 inner ≡ false
  pub no-lf : has 10 inner ≡ false
  pub lf : b ≡ 10
  pub short : length inner + 2 ≤ 82
  pub line : given h b ≡ 36 ∷ inner ++ 10 ∷ []

given-cases : (h : List ℕ) (b : ℕ) → (given h b ≡ []) ⊎ GivenBy h b
unfolding given
given-cases h b = go (eqb b 10) refl (open_is h)
  where
    go : (t : Bool) → eqb b 10 ≡ t → (open_line h ≡ []) ⊎ OpenBy h → (given h b ≡ []) ⊎ GivenBy h b
    go false l w = inl (simp l)
    go true l (inl e) = inl (simp (l, e))
    go true l (inr o) = fits (leb (suc (length o.inner) + 1) 82) refl
      where
        fits : (t : Bool) → leb (suc (length o.inner) + 1) 82 ≡ t → (given h b ≡ []) ⊎ GivenBy h b
        fits false k = inl (ap (λ (o : List ℕ). given_of o b) o.line ∙ simp (k, and-false))
        fits true k =
            let n = leb-true (suc (length o.inner) + 1) 82 k in
            inr (record {
              past = o.past;
              inner = o.inner;
              bytes = o.bytes;
              no-dollar = o.no-dollar;
              no-lf = o.no-lf;
              lf = eqb-true b 10 l;
              short = omega arith;
              line = ap (λ (o : List ℕ). given_of o b) o.line
                  ∙ simp (l, k, le-leb 1 (suc (length o.inner)) (omega arith)) (rw (eqb-true b 10 l));
            })

-- Whatever is given out has that form, and its last byte is LF.
pub given_is : (h : List ℕ) (b : ℕ) → 1 ≤ length (given h b) → GivenBy h b
given_is h b k = ⊎_elim (λ e. let z : ⊥ = omega (arith, ap length e) in absurd z) (λ g. g) (given-cases h b)

-- The line given out is the last so many bytes fed.
pub given-last : (h : List ℕ) (b : ℕ) → given h b ≡ drop (length h + 1 - length (given h b)) (h ++ b ∷ [])
given-last h b = go (given-cases h b)
  where
    go : (given h b ≡ []) ⊎ GivenBy h b → given h b ≡ drop (length h + 1 - length (given h b)) (h ++ b ∷ [])
    go (inl e) =
        let n : length (h ++ b ∷ []) ≤ length h + 1 - 0 = simp length-append (omega arith) in
        rw e (sym (drop_of_length-le (h ++ b ∷ []) n))
    go (inr g) =
        let t : h ++ b ∷ [] ≡ g.past ++ given h b = cc (append_assoc g.past (36 ∷ g.inner) (b ∷ [])) in
        let n : length h + 1 ≡ length g.past + length (given h b) = simp length-append at (ap length t) in
        sym (ap (drop (length h + 1 - length (given h b))) t ∙ drop_at g.past (given h b) (length h + 1 - length (given h b))
        (omega arith))

-- Where no `$` came after the previous LF, nothing is given out.
pub gives_none : (h : List ℕ) → open_line h ≡ [] → given h 10 ≡ []
unfolding given
gives_none h e = simp e
