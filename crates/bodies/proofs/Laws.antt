-- A body is what a line can have, from both sides of the line rule; and a search for a byte that may not stand in one, as a loop meets it.
use Prim.Native.Nat.{◌+◌, ◌<◌, ◌≤◌, suc, ℕ}
use mathlib.Core.Path.{◌∙◌, ◌≡◌, ap, refl, subst, sym}
use mathlib.Core.List.{[], ◌++◌, ◌∷◌, List}
use mathlib.Core.Bool.{not, ◌&&◌, Bool, cond, false, true}
use native.Mathlib.Omega.{arith}
use native.Mathlib.Numerals.{add-one}
use lib.Dec.{eqb, leb, ltb}
use lib.ListN.{drop, length, take}
use lib.Seq.{take_all, take_at}
use borrow.Author.Tests.{eq-eqb, eqb-false, le-leb, le-ltb, leb-true, lt-leb, lt-ltb, ltb-false, ltb-true, ne_eqb}
use Rattle.digits.specs.Pick.{pick}
use Rattle.digits.proofs.Bools.{and_left, and_right, true-false}
use Rattle.line.specs.Line.{as_line, body_byte, body_bytes, body_of, line_refusal}
use Rattle.line.proofs.Form.{accepted, accepts, Body, body-of}
use Rattle.line.proofs.Laws.{line-short}
use Rattle.frame.specs.declared.Written.{Written}
use Rattle.frame.specs.Written.{fault_at, left_of, refused, Writes, written_of, wrote}
use Rattle.frame.proofs.Sealing.{line-length}
use Rattle.bodies.specs.declared.Why.{Why}
use Rattle.bodies.specs.declared.Why.TheVariants.{Empty, Long, Other}
use Rattle.std.proofs.Common.{Option, Some, None}
use Rattle.std.proofs.lemmas.Option.{MatchOption-at_none, MatchOption-at_some}
use Rattle.std.specs.Option.{is_some, IsSomeAnd, MatchOption}
use Rattle.std.specs.List.{position_or_len}
use Rattle.bodies.specs.Bodies.{body_fault, is_body, other_in, why_of}

-- What the test says, and what makes it hold.
pub body_is : (s : List ℕ) → is_body s ≡ true → Body s
unfolding is_body
body_is s e =
    let f = and_right (leb 1 (length s)) _ e in
    record {
      good = and_right (leb (length s) 76) _ f;
      some = leb-true 1 (length s) (and_left _ _ e);
      room = leb-true (length s) 76 (and_left _ _ f);
    }

pub is_body_lem : (s : List ℕ) → Body s → is_body s ≡ true
unfolding is_body
is_body_lem s b = rw (le-leb 1 (length s) b.some, le-leb (length s) 76 b.room, b.good)

-- The line of a body passes the line rule, and nothing else does.
pub body-passes : (s : List ℕ) → is_body s ≡ true → line_refusal (as_line s) ≡ 0
body-passes s e = accepts s (body_is s e)

pub passes-body : (s : List ℕ) → line_refusal (as_line s) ≡ 0 → is_body s ≡ true
passes-body s e = is_body_lem s (rw (body-of s _ _) at (accepted (as_line s) e).0)

pub framed-body : (s : List ℕ) → body_of (as_line s) ≡ s
framed-body s = body-of s _ _

rule-body : (s : List ℕ) → eqb (line_refusal (as_line s)) 0 ≡ is_body s
rule-body s = go (is_body s) refl
  where
    go : (t : Bool) → is_body s ≡ t → eqb (line_refusal (as_line s)) 0 ≡ t
    go true e = eq-eqb (line_refusal (as_line s)) 0 (body-passes s e)
    go false e = ne_eqb (line_refusal (as_line s)) 0 (λ f. true-false (passes-body s f) e)

-- What a writer does with all of the bytes that it is lent, it does with the body; and with a fault that is known by another name.
pub as-framed : {f g w : Written} {o l : List ℕ} (s : List ℕ) → f ≡ g → Writes f (take (length s) s) o w l → Writes g s o w l
as-framed {f} {g} {w} {o} {l} s e v =
    subst (λ (x : Written). Writes x s o w l) e (subst (λ (x : List ℕ). Writes f x o w l) (take_all (length s) s (omega arith)) v)

pub no-fault : fault_at 0 ≡ wrote 0
unfolding fault_at
no-fault = refl

-- Bytes framed in an output that has room for every line: what stands there then passes the line rule exactly where they are a body.
module _ (s o : List ℕ) (n : length o ≡ 82) where
  long-body : 76 < length s → is_body s ≡ false
  unfolding is_body
  long-body h = rw (le-leb 1 (length s) (omega arith), lt-leb (length s) 76 h)

  framed-long : {w : Written} {l : List ℕ} → 76 < length s → Writes (wrote 0) s o w l → w.length ≡ 0
  unfolding written_of
  framed-long h v = ap (λ (x : Written). x.length) v.answers
      ∙ rw (lt-ltb 82 (length (as_line s)) (omega (arith, line-length s)))

  module _ {w : Written} {l : List ℕ} (h : length s ≤ 76) (v : Writes (wrote 0) s o w l) where
    fits : ltb 82 (length (as_line s)) ≡ false
    fits = le-ltb 82 (length (as_line s)) (omega (arith, line-length s))

    room : ltb (length o) (length (as_line s)) ≡ false
    room = le-ltb (length o) (length (as_line s)) (omega (arith, line-length s))

    framed-length : w.length ≡ length (as_line s)
    unfolding written_of
    framed-length = ap (λ (x : Written). x.length) v.answers ∙ rw (fits, room)

    framed-bytes : l ≡ as_line s ++ drop (length (as_line s)) o
    unfolding written_of left_of
    framed-bytes = v.leaves ∙ rw (fits, room)

    framed-line : take w.length l ≡ as_line s
    framed-line = rw (framed-length, framed-bytes) (take_at (as_line s) (drop (length (as_line s)) o) (length (as_line s)) refl)

  pub framed-within : {w : Written} {l : List ℕ} → Writes (wrote 0) s o w l → w.length ≤ 82
  framed-within {w} {l} v = go (ltb 76 (length s)) refl
    where
      go : (t : Bool) → ltb 76 (length s) ≡ t → w.length ≤ 82
      go true e = omega (arith, framed-long (ltb-true 76 (length s) e) v)
      go false e = omega (arith, framed-length (ltb-false 76 (length s) e) v, line-length s, ltb-false 76 (length s) e)

  pub framed-rule : {w : Written} {l : List ℕ} → Writes (wrote 0) s o w l → eqb (line_refusal (take w.length l)) 0 ≡ is_body s
  framed-rule {w} {l} v = go (ltb 76 (length s)) refl
    where
      go : (t : Bool) → ltb 76 (length s) ≡ t → eqb (line_refusal (take w.length l)) 0 ≡ is_body s
      go true e = let h = ltb-true 76 (length s) e in
          rw (framed-long h v, long-body h, line-short [] (omega arith))
      go false e = rw (framed-line (ltb-false 76 (length s) e) v) (rule-body s)

-- The fault of a body, and of bytes that are none.
pub body-fault : (s : List ℕ) → is_body s ≡ true → fault_at 0 ≡ body_fault s
unfolding body_fault fault_at
body-fault s e = rw e

pub no-body-fault : (s : List ℕ) → is_body s ≡ false → refused 1 1 0 ≡ body_fault s
unfolding body_fault
no-body-fault s e = rw e

pub faultless : (s : List ℕ) → (body_fault s).no ≡ 0 → is_body s ≡ true
unfolding body_fault
faultless s e = go (is_body s) refl e
  where
    go : (t : Bool) → is_body s ≡ t → (pick t (wrote 0) (refused 1 1 0)).no ≡ 0 → is_body s ≡ true
    go true p f = p
    go false p f = let z : ⊥ = omega (arith, f) in absurd z

-- The bytes before the first that may not stand in a body, as a search counts them.
abbrev pub may_not_stand : ℕ → Bool
may_not_stand b = not (body_byte b)

pub other-place : (s : List ℕ) → position_or_len may_not_stand s ≡ other_in s
unfolding other_in
other-place [] = refl
other-place (b ∷ s) = go (body_byte b) (other-place s)
  where
    go : (t : Bool) → position_or_len may_not_stand s ≡ other_in s → cond (not (not t)) (1 + position_or_len may_not_stand s) 0 ≡ cond t (other_in s + 1) 0
    go true e = omega arith
    go false e = refl

-- The reasons, in the code's order.
module _ (s : List ℕ) where
  pub why-empty : eqb (length s) 0 ≡ true → Some Empty ≡ why_of s
  unfolding why_of
  why-empty h = rw h

  module _ (h : eqb (length s) 0 ≡ false) where
    pub why-long : 76 < length s → Some Long ≡ why_of s
    unfolding why_of
    why-long k = rw (h, lt-ltb 76 (length s) k)

    pub why-other : length s ≤ 76 → pick (ltb (other_in s) (length s)) (Some (Other (other_in s))) None ≡ why_of s
    unfolding why_of
    why-other k = rw (h, le-ltb 76 (length s) k)

-- What a search for the first byte that may not stand in a body becomes.
pub why-found : (s : List ℕ) {o : Option ℕ} {r : Option Why} (P : ℕ → Why → Type 0) → ((i : ℕ) (w : Why) → P i w → w ≡ Other i)
    → o ≡ cond (ltb (position_or_len may_not_stand s) (length s)) (Some (position_or_len may_not_stand s)) None
    → MatchOption o (r ≡ None) (λ i. IsSomeAnd r (P i)) → r ≡ pick (ltb (other_in s) (length s)) (Some (Other (other_in s))) None
why-found s {o} {r} P h e m = go (ltb (other_in s) (length s)) o r (rw (other-place s) at e) m
  where
    go : (t : Bool) (o : Option ℕ) (r : Option Why) → o ≡ cond t (Some (other_in s)) None → MatchOption o (r ≡ None) (λ i. IsSomeAnd r (P i))
        → r ≡ pick t (Some (Other (other_in s))) None
    go true o r e m = some r (MatchOption-at_some _ _ (other_in s) e m)
      where
        some : (r : Option Why) → IsSomeAnd r (P (other_in s)) → r ≡ Some (Other (other_in s))
        some None x = absurd x
        some (Some w) x = ap Some (h (other_in s) w x)
    go false o r e m = MatchOption-at_none _ _ e m

-- All bytes may stand in a body exactly where none is found that may not.
all-stand : (s : List ℕ) → body_bytes s ≡ true → other_in s ≡ length s
unfolding body_bytes other_in
all-stand [] e = refl
all-stand (b ∷ s) e = rw (and_left (body_byte b) _ e) (ap (λ (n : ℕ). n + 1) (all-stand s (and_right (body_byte b) _ e)) ∙ add-one (length s))

stand-all : (s : List ℕ) → length s ≤ other_in s → body_bytes s ≡ true
unfolding body_bytes other_in
stand-all [] h = refl
stand-all (b ∷ s) h = go (body_byte b) refl h (stand-all s)
  where
    go : (t : Bool) → body_byte b ≡ t → suc (length s) ≤ cond t (other_in s + 1) 0 → (length s ≤ other_in s → body_bytes s ≡ true)
        → (body_byte b && body_bytes s) ≡ true
    go true e k i = rw e (i (omega arith))
    go false e k i = let z : ⊥ = omega arith in absurd z

-- A reason is given exactly where the bytes are no body.
pub body-nothing : (s : List ℕ) → is_body s ≡ true → why_of s ≡ None
body-nothing s e =
    let b = body_is s e in
    sym (why-other s (ne_eqb (length s) 0 (λ z. omega (arith, b.some))) b.room) ∙ rw (le-ltb (other_in s) (length s) (omega (arith, all-stand s b.good)))

pub nothing-body : (s : List ℕ) → why_of s ≡ None → is_body s ≡ true
unfolding why_of
nothing-body s e = go (eqb (length s) 0) (ltb 76 (length s)) (ltb (other_in s) (length s)) refl refl refl (ap is_some e)
  where
    go : (a b c : Bool) → eqb (length s) 0 ≡ a → ltb 76 (length s) ≡ b → ltb (other_in s) (length s) ≡ c
        → is_some (pick a (Some Empty) (pick b (Some Long) (pick c (Some (Other (other_in s))) None))) ≡ false → is_body s ≡ true
    go true b c p q r f = absurd (true-false refl f)
    go false true c p q r f = absurd (true-false refl f)
    go false false true p q r f = absurd (true-false refl f)
    go false false false p q r f = is_body_lem s record {
      good = stand-all s (ltb-false (other_in s) (length s) r);
      some = let n = eqb-false (length s) 0 p in omega arith;
      room = ltb-false 76 (length s) q;
    }
