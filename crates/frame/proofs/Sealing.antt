-- The ways out of a writer, one law each; and a body that was cut at the end of a scratch of over 76 bytes decides as the whole does, since
-- its line is too long either way.
use Prim.Native.Nat.{◌%◌, ◌+◌, ◌/◌, ◌<◌, ◌≤◌, ℕ}
use mathlib.Core.Bool.{Bool, false, true}
use mathlib.Core.List.{[], ◌++◌, ◌∷◌, append_assoc, List}
use mathlib.Core.Path.{◌∙◌, ◌≡◌, ap, refl, subst, sym}
use native.Mathlib.Omega.{arith}
use lib.Dec.{eqb, ltb}
use lib.ListN.{drop, length, take}
use lib.Seq.{length-take-le, take_all}
use borrow.Author.Tests.{eq-eqb, le-ltb, lt-ltb, ltb-false, ltb-true, ne_eqb}
use Rattle.digits.specs.Hex.{hex_of}
use Rattle.put.specs.Wrote as W
use Rattle.put.specs.Wrote.{Held, held, Puts, PutsFields, wrote_fields}
use Rattle.put.proofs.Chain.{put-start, wrote-append}
use Rattle.line.specs.Line.{as_line, xor_of}
use Rattle.line.proofs.Form.{with-length}
use Rattle.fields.specs.Fields.{join_fields}
use Rattle.frame.specs.Written.{fault_at, left_of, refused, Writes, written_of, wrote}
use Rattle.frame.specs.declared.Written.{Written}

pub line-length : (s : List ℕ) → length (as_line s) ≡ length s + 6
line-length s = with-length s (hex_of (xor_of s / 16)) (hex_of (xor_of s % 16))

-- In the code's order: the record's fault, 1, 8, and the line.
module _ (f : Written) (s o : List ℕ) where
  pub fault-out : (f.no ≡ 0 → ⊥) → Writes f s o f o
  unfolding written_of left_of
  fault-out h = record { answers = rw (ne_eqb f.no 0 h); leaves = rw (ne_eqb f.no 0 h, ne_eqb f.no 0 h) }

  module _ (h : f.no ≡ 0) where
    pub long-out : 76 < length s → Writes f s o (refused 1 1 0) o
    unfolding written_of left_of
    long-out i =
        let k : ltb 82 (length (as_line s)) ≡ true = lt-ltb 82 (length (as_line s)) (omega (arith, line-length s)) in
        record { answers = rw (eq-eqb f.no 0 h, k); leaves = rw (eq-eqb f.no 0 h, k) }

    module _ (i : length s ≤ 76) where
      k : ltb 82 (length (as_line s)) ≡ false
      k = le-ltb 82 (length (as_line s)) (omega (arith, line-length s))

      pub short-out : length o < length s + 6 → Writes f s o (refused 8 1 0) o
      unfolding written_of left_of
      short-out j =
          let q : ltb (length o) (length (as_line s)) ≡ true = lt-ltb (length o) (length (as_line s)) (omega (arith, line-length s)) in
          record { answers = rw (eq-eqb f.no 0 h, k, q); leaves = rw (eq-eqb f.no 0 h, k, q) }

      pub line-out : {e : List ℕ} → length s + 6 ≤ length o → e ≡ as_line s ++ drop (length (as_line s)) o
          → Writes f s o (wrote (length s + 6)) e
      unfolding written_of left_of
      line-out j w =
          let q : ltb (length o) (length (as_line s)) ≡ false = le-ltb (length o) (length (as_line s)) (omega (arith, line-length s)) in
          record { answers = ap wrote (sym (line-length s)) ∙ rw (eq-eqb f.no 0 h, k, q); leaves = w ∙ rw (eq-eqb f.no 0 h, k, q) }

-- Two bodies that are both too long.
module _ (f : Written) (s t o : List ℕ) (h : 76 < length s) (i : 76 < length t) where
  too_long : (x : List ℕ) → 76 < length x → ltb 82 (length (as_line x)) ≡ true
  too_long x j = lt-ltb 82 (length (as_line x)) (omega (arith, line-length x))

  pub same-long : {a : Written} {l : List ℕ} → Writes f s o a l → Writes f t o a l
  unfolding written_of left_of
  same-long w = record { answers = w.answers ∙ rw (too_long s h, too_long t i); leaves = w.leaves ∙ go (eqb f.no 0) refl }
    where
      go : (b : Bool) → eqb f.no 0 ≡ b → left_of f s o ≡ left_of f t o
      go true e = rw (e, too_long s h, too_long t i)
      go false e = rw (e, e)

-- A body that was cut at n bytes.
clipped : (f : Written) (s o : List ℕ) (n : ℕ) {a : Written} {l : List ℕ} → 76 < n → Writes f (take n s) o a l → Writes f s o a l
clipped f s o n {a} {l} h w = go (ltb n (length s)) refl
  where
    go : (b : Bool) → ltb n (length s) ≡ b → Writes f s o a l
    go true e =
        let i = ltb-true n (length s) e in
        same-long f (take n s) s o (rw (length-take-le n s (omega arith)) h) (omega arith) w
    go false e = subst (λ (x : List ℕ). Writes f x o a l) (take_all n s (ltb-false n (length s) e)) w

-- What a writer does with the body in its scratch, it does with the body.
pub sealed : (f : Written) (o : List ℕ) {d e s : List ℕ} {n : ℕ} {a : Written} {l : List ℕ}
    → 76 < length d → Puts (held 0 d) s (held n e) → Writes f (take n e) o a l → Writes f s o a l
sealed f o {d} {e} {s} {n} {a} {l} h p w = clipped f s o (length d) h (subst (λ (x : List ℕ). Writes f x o a l) (put-start p) w)

-- An address and the fields behind it are a body.
prefixed : (f g : List ℕ) (fs : List (List ℕ)) → join_fields (f ++ (44 ∷ g)) fs ≡ f ++ (44 ∷ join_fields g fs)
unfolding join_fields
prefixed f g [] = refl
prefixed f g (x ∷ fs) = append_assoc f (44 ∷ g) (44 ∷ join_fields x fs)

join-wrote : (h : Held) (f : List ℕ) (fs : List (List ℕ)) → wrote_fields (W.wrote h f) fs ≡ W.wrote h (join_fields f fs)
unfolding wrote_fields join_fields
join-wrote h f [] = refl
join-wrote h f (g ∷ fs) =
    ap (λ (x : Held). wrote_fields x fs) (sym (wrote-append h f (44 ∷ g)))
    ∙ join-wrote h (f ++ (44 ∷ g)) fs
    ∙ ap (W.wrote h) (prefixed f g fs)

pub body-put : {h g k : Held} {f : List ℕ} {fs : List (List ℕ)} → Puts h f g → PutsFields g fs k → Puts h (join_fields f fs) k
body-put {h} {g} {k} {f} {fs} p q = record { is = q.is ∙ ap (λ (x : Held). wrote_fields x fs) p.is ∙ join-wrote h f fs }

-- The high half of a byte is one digit.
pub high_half : (x : ℕ) → x < 256 → hex_of (x / 16 % 16) ≡ hex_of (x / 16)
high_half x h = let e : x / 16 % 16 ≡ x / 16 = omega arith in ap hex_of e

-- The fault of a record, and none.
pub fault-none : (w : ℕ) → w ≡ 0 → wrote 0 ≡ fault_at w
unfolding fault_at
fault-none w e = rw (eq-eqb w 0 e)

pub fault-some : (w : ℕ) → (w ≡ 0 → ⊥) → refused 5 1 w ≡ fault_at w
unfolding fault_at
fault-some w h = rw (ne_eqb w 0 h)
