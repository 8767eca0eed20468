-- One byte of lines that pass is changed, dropped or added: the first line that is new or no longer as it was does not pass. Both runs
-- are gone through together; equal lines are left out on both sides, and of two different lines that both passed the machine would say
-- that they are the same.
use Prim.Native.Nat.{ℕ, zero, suc, ◌+◌, ◌-◌, ◌≤◌, ◌<◌}
use mathlib.Core.Path.{◌≡◌, refl, sym, ◌∙◌, ap, subst}
use mathlib.Core.List.{List, [], ◌∷◌, ◌++◌}
use mathlib.Core.Bool.{Bool, true, false, cond}
use mathlib.Core.Logic.{◌⊎◌, inl, inr, ⊎_elim}
use native.Mathlib.Omega.{arith}
use lib.ListN.{length, get_or, length-append}
use lib.Dec.{ltb, eqb}
use borrow.Author.Tests.{eqb-true, eq-eqb, ltb-true, ltb-false}
use Rattle.digits.specs.Same.{same}
use Rattle.digits.proofs.Sameness.{same_true, same_refl, same_false}
use Rattle.line.specs.Line.{line_refusal}
use Rattle.line.proofs.Form.{passes-long}
use Rattle.lines.specs.Cut.{cut_rest, cut_lines, joined}
use Rattle.lines.specs.Edit.{OneByte, changed, dropped, added}
use Rattle.lines.specs.New.{alike, first_new, IsFirstNew}
use Rattle.lines.proofs.CutLaws.{first_of, after_of, first-after, cut-first, rest-joined}
use Rattle.lines.proofs.Machine.{St, start, lf, dead, step, back, between, stepped, walk, start-dead, lives, unique, one-byte-walk}
use Rattle.lines.proofs.Machine.{line_walk, Lines, lines-walk}

-- where a byte leads to the start of a line, only LF goes on
is-lf : (q : St) (x : ℕ) → step q x ≡ start → q ≡ lf
is-lf q x e = sym (stepped q x (λ d. start-dead (sym e ∙ d))).was ∙ ap (back x) e

only-lf : (q : St) (x y : ℕ) → step q x ≡ start → (step q y ≡ dead → ⊥) → y ≡ 10
only-lf q x y e n = sym (stepped q y n).byte ∙ ap (λ (r : St). between r (step q y)) (is-lf q x e)

-- two first lines that pass from one state, their bytes being the same but for one, are the same
further : (t : Bool) (b : ℕ) (u v : List ℕ) (r : St) → (walk r u ≡ start → walk r v ≡ start → u ≡ v)
    → walk r (cond t [] u) ≡ start → walk r (cond t [] v) ≡ start → b ∷ cond t [] u ≡ b ∷ cond t [] v
further true b u v r ih e f = refl
further false b u v r ih e f = ap (λ (w : List ℕ). b ∷ w) (ih e f)

first-changed : (q : St) (p s : List ℕ) (x y : ℕ) → walk q (first_of (p ++ x ∷ s)) ≡ start → walk q (first_of (p ++ y ∷ s)) ≡ start
    → first_of (p ++ x ∷ s) ≡ first_of (p ++ y ∷ s)
first-changed q [] s x y e f = ap (λ (b : ℕ). first_of (b ∷ s)) (go (eqb x 10) (eqb y 10) refl refl e f)
  where
    go : (t u : Bool) → eqb x 10 ≡ t → eqb y 10 ≡ u → walk (step q x) (cond t [] (first_of s)) ≡ start
        → walk (step q y) (cond u [] (first_of s)) ≡ start → x ≡ y
    go true u i j e f = eqb-true x 10 i ∙ sym (only-lf q x y e (lives (step q y) (cond u [] (first_of s)) f))
    go false true i j e f = only-lf q y x f (lives (step q x) (first_of s) e) ∙ sym (eqb-true y 10 j)
    go false false i j e f =
        sym (stepped q x (lives (step q x) (first_of s) e)).byte ∙ ap (between q) (unique (step q x) (step q y) (first_of s) e f)
        ∙ (stepped q y (lives (step q y) (first_of s) f)).byte
first-changed q (b ∷ p) s x y e f = further (eqb b 10) b _ _ (step q b) (first-changed (step q b) p s x y) e f

lf-next : (q : St) (s : List ℕ) (x : ℕ) → x ≡ 10 → step q x ≡ start → walk q (first_of s) ≡ start → x ∷ [] ≡ first_of s
lf-next q [] x i e f = let z : lf ≡ start = sym (is-lf q x e) ∙ f in let y : ◌≡◌ {A = ℕ} 0 1 = cc in let w : ⊥ = omega arith in absurd w
lf-next q (c ∷ s) x i e f = let j = only-lf q x c e (lives (step q c) (cond (eqb c 10) [] (first_of s)) f) in rw (i, eq-eqb c 10 j, j)

first-dropped : (q : St) (p s : List ℕ) (x : ℕ) → walk q (first_of (p ++ x ∷ s)) ≡ start → walk q (first_of (p ++ s)) ≡ start
    → first_of (p ++ x ∷ s) ≡ first_of (p ++ s)
first-dropped q [] s x e f = go (eqb x 10) refl e
  where
    go : (t : Bool) → eqb x 10 ≡ t → walk (step q x) (cond t [] (first_of s)) ≡ start → x ∷ cond t [] (first_of s) ≡ first_of s
    go true i e = lf-next q s x (eqb-true x 10 i) e f
    go false i e = absurd ((stepped q x (lives (step q x) (first_of s) e)).moved (unique (step q x) q (first_of s) e f))
first-dropped q (b ∷ p) s x e f = further (eqb b 10) b _ _ (step q b) (first-dropped (step q b) p s x) e f

first-same : {a b : List ℕ} → OneByte a b → walk start (first_of a) ≡ start → walk start (first_of b) ≡ start → first_of a ≡ first_of b
first-same (changed p s x y n) e f = first-changed start p s x y e f
first-same (dropped p s x) e f = first-dropped start p s x e f
first-same (added p s x) e f = sym (first-dropped start p s x f e)

-- what both begin with may be left out
uncons : {u v : List ℕ} → OneByte u v → (c : ℕ) (a b : List ℕ) → u ≡ c ∷ a → v ≡ c ∷ b → OneByte a b
uncons (changed [] s x y n) c a b e f = absurd (n (cc))
uncons (changed (d ∷ p) s x y n) c a b e f =
    let i : p ++ x ∷ s ≡ a = cc in let j : p ++ y ∷ s ≡ b = cc in rw (← i, ← j) (changed p s x y n)
uncons (dropped [] s x) c a b e f = let i : c ∷ b ≡ a = cc in rw (← i) (dropped [] b c)
uncons (dropped (d ∷ p) s x) c a b e f =
    let i : p ++ x ∷ s ≡ a = cc in let j : p ++ s ≡ b = cc in rw (← i, ← j) (dropped p s x)
uncons (added [] s x) c a b e f = let i : c ∷ a ≡ b = cc in rw (← i) (added [] a c)
uncons (added (d ∷ p) s x) c a b e f =
    let i : p ++ s ≡ a = cc in let j : p ++ x ∷ s ≡ b = cc in rw (← i, ← j) (added p s x)

unjoin : (l : List ℕ) {a b : List ℕ} → OneByte (l ++ a) (l ++ b) → OneByte a b
unjoin [] d = d
unjoin (c ∷ l) {a} {b} d = unjoin l (uncons d c (l ++ a) (l ++ b) refl refl)

one-longer : {a b : List ℕ} → OneByte a b → length b ≤ length a + 1
one-longer (changed p s x y n) = simp length-append (omega arith)
one-longer (dropped p s x) = simp length-append (omega arith)
one-longer (added p s x) = simp length-append (omega arith)

-- old lines and new ones, n of them the same at the start; then comes a new line that does not pass, and that differs from the old one or
-- has none
pub data Fault : List (List ℕ) → List (List ℕ) → ℕ → Type 0 where
  past : (m : List ℕ) (ms : List (List ℕ)) → (line_refusal m ≡ 0 → ⊥) → Fault [] (m ∷ ms) 0
  here : (l m : List ℕ) (ls ms : List (List ℕ)) → (l ≡ m → ⊥) → (line_refusal m ≡ 0 → ⊥) → Fault (l ∷ ls) (m ∷ ms) 0
  later : (l : List ℕ) (ls ms : List (List ℕ)) (n : ℕ) → Fault ls ms n → Fault (l ∷ ls) (l ∷ ms) (suc n)

abbrev pub Found : List (List ℕ) → List (List ℕ) → Type 0
Found old new = (n : ℕ) × Fault old new n

-- the lines of bytes, taken apart
record Apart (s l : List ℕ) (ls : List (List ℕ)) : Type 0 where
  pub first : first_of s ≡ l
  pub whole : s ≡ l ++ after_of s
  pub rest : cut_rest (after_of s) ≡ ls

apart : (s l : List ℕ) (ls : List (List ℕ)) → cut_rest s ≡ l ∷ ls → Apart s l ls
unfolding cut_rest
apart [] l ls e = let z : ◌≡◌ {A = ℕ} 0 1 = cc in let w : ⊥ = omega arith in absurd w
apart (b ∷ s) l ls e =
    let h : first_of (b ∷ s) ∷ cut_rest (after_of (b ∷ s)) ≡ l ∷ ls = sym (cut-first b s) ∙ e in
    let i : first_of (b ∷ s) ≡ l = cc in
    record { first = i; whole = rw (← i) (sym (first-after (b ∷ s))); rest = cc }

-- the edit of two first lines that are the same is one of what follows them
rest-edit : {a b l m : List ℕ} {ls ms : List (List ℕ)} → Apart a l ls → Apart b m ms → l ≡ m → OneByte a b → OneByte (after_of a) (after_of b)
rest-edit {a} {b} {l} {m} p q i d =
    unjoin l (subst (λ (v : List ℕ). OneByte (l ++ after_of a) v) (q.whole ∙ ap (λ (r : List ℕ). r ++ after_of b) (sym i))
    (subst (λ (u : List ℕ). OneByte u b) p.whole d))

first-fails : {a b l m : List ℕ} {ls ms : List (List ℕ)} → Apart a l ls → Apart b m ms → OneByte a b → line_refusal l ≡ 0 → (l ≡ m → ⊥)
    → line_refusal m ≡ 0 → ⊥
first-fails {a} {b} {l} {m} p q d e n f =
    n (sym p.first ∙ first-same d (ap (walk start) p.first ∙ line_walk l e) (ap (walk start) q.first ∙ line_walk m f) ∙ q.first)

find : (old new : List (List ℕ)) (a b : List ℕ) → cut_rest a ≡ old → cut_rest b ≡ new → OneByte a b → Lines old → Found old new
find old [] a b e f d h =
    absurd (one-byte-walk d (ap (walk start) (sym (rest-joined a) ∙ ap joined e) ∙ lines-walk old h)
    (ap (walk start) (sym (rest-joined b) ∙ ap joined f)))
find [] (m ∷ ms) a b e f d h = (
  0,
  past m ms (λ k.
      let i = ap length (sym (rest-joined a) ∙ ap joined e) in
      let j = simp length-append at (ap length (sym (rest-joined b) ∙ ap joined f)) in
      omega (arith, passes-long m k, one-longer d)),
)
find (l ∷ ls) (m ∷ ms) a b e f d h =
    let p = apart a l ls e in let q = apart b m ms f in
    go (same l m) refl p q (λ (k : OneByte (after_of a) (after_of b)). find ls ms (after_of a) (after_of b) p.rest q.rest k h.1)
  where
    go : (t : Bool) → same l m ≡ t → Apart a l ls → Apart b m ms → (OneByte (after_of a) (after_of b) → Found ls ms) → Found (l ∷ ls) (m ∷ ms)
    go true i p q ih =
        let s = same_true l m i in
        let r = ih (rest-edit p q s d) in
        subst (λ (w : List ℕ). Found (l ∷ ls) (w ∷ ms)) s (suc r.0, later l ls ms r.0 r.1)
    go false i p q ih =
        let n : (l ≡ m → ⊥) = λ s. let z : true ≡ false = sym (same_refl l) ∙ ap (same l) s ∙ i in let y : ◌≡◌ {A = ℕ} 0 1 =
        cc in omega arith in
        (0, here l m ls ms n (first-fails p q d h.0 n))

none-fails : line_refusal [] ≡ 0 → ⊥
none-fails e = omega (arith, passes-long [] e)

-- no bytes left
none_found : (old : List (List ℕ)) → Lines old → Found old ([] ∷ [])
none_found [] h = (0, past [] [] none-fails)
none_found (l ∷ ls) h = (0, here l [] ls [] (λ i. omega (arith, passes-long l h.0, ap length i)) none-fails)

found_in : (g h : List ℕ) → OneByte g h → Lines (cut_lines g) → Found (cut_lines g) (cut_lines h)
unfolding cut_lines
found_in [] h d p = absurd (none-fails p.0)
found_in (b ∷ g) [] d p = none_found (cut_rest (b ∷ g)) p
found_in (b ∷ g) (c ∷ h) d p = find (cut_rest (b ∷ g)) (cut_rest (c ∷ h)) (b ∷ g) (c ∷ h) refl refl d p

pub edit-found : {g h : List ℕ} → OneByte g h → Lines (cut_lines g) → Found (cut_lines g) (cut_lines h)
edit-found {g} {h} d p = found_in g h d p

-- the count of lines that are the same says what it should
pub alike_same : (old new : List (List ℕ)) (j : ℕ) → j < alike old new → (j < length old) × (get_or new j [] ≡ get_or old j [])
unfolding alike
alike_same [] new j h = let z : ⊥ = omega arith in absurd z
alike_same (l ∷ old) [] j h = let z : ⊥ = omega arith in absurd z
alike_same (l ∷ old) (m ∷ new) j h = go (same l m) refl j h (alike_same old new)
  where
    go : (t : Bool) → same l m ≡ t → (j : ℕ) → j < cond t (suc (alike old new)) 0
        → ((i : ℕ) → i < alike old new → (i < length old) × (get_or new i [] ≡ get_or old i []))
        → (j < length (l ∷ old)) × (get_or (m ∷ new) j [] ≡ get_or (l ∷ old) j [])
    go true i zero h ih = (omega arith, sym (same_true l m i))
    go true i (suc j) h ih = let r = ih j (omega arith) in (omega arith, r.1)
    go false i j h ih = let z : ⊥ = omega arith in absurd z

pub alike-differs : (old new : List (List ℕ)) → alike old new < length new
    → (length old ≤ alike old new) ⊎ (get_or new (alike old new) [] ≡ get_or old (alike old new) [] → ⊥)
unfolding alike
alike-differs [] new h = inl (omega arith)
alike-differs (l ∷ old) [] h = let z : ⊥ = omega arith in absurd z
alike-differs (l ∷ old) (m ∷ new) h = go (same l m) refl h (alike-differs old new)
  where
    go : (t : Bool) → same l m ≡ t → cond t (suc (alike old new)) 0 < length (m ∷ new)
        → (alike old new < length new → (length old ≤ alike old new) ⊎ (get_or new (alike old new) [] ≡ get_or old (alike old new) [] → ⊥))
        → (length (l ∷ old) ≤ cond t (suc (alike old new)) 0) ⊎
        (get_or (m ∷ new) (cond t (suc (alike old new)) 0) [] ≡ get_or (l ∷ old) (cond t (suc (alike old new)) 0) [] → ⊥)
    go true i h ih = ⊎_elim (λ k. inl (omega arith)) (λ k. inr k) (ih (omega arith))
    go false i h ih = inr (λ s. let z : true ≡ false = sym (same_refl l) ∙ ap (same l) (sym s)
        ∙ i in let y : ◌≡◌ {A = ℕ} 0 1 = cc in omega arith)

add-sub-one : (n : ℕ) → n + 1 - 1 ≡ n
add-sub-one n = omega arith

-- `first_new` is the first new line, where there is one, and the only one
pub first-new-is : (old new : List (List ℕ)) → first_new old new ≤ length new → IsFirstNew old new (first_new old new)
unfolding first_new
first-new-is old new h =
    record {
      from_one = omega arith;
      there = h;
      alike-before = λ i p q. let r = alike_same old new (i - 1) (omega arith) in (omega arith, r.1);
      differs = ⊎_elim (λ k. inl (omega arith)) (λ k. inr (rw (add-sub-one (alike old new)) k)) (alike-differs old new (omega arith));
    }

pub first-new-only : (old new : List (List ℕ)) (k : ℕ) → IsFirstNew old new k → k ≡ first_new old new
unfolding first_new
first-new-only old new k h = go (ltb k (alike old new + 1)) (ltb (alike old new + 1) k) refl refl
  where
    go : (t u : Bool) → ltb k (alike old new + 1) ≡ t → ltb (alike old new + 1) k ≡ u → k ≡ alike old new + 1
    go true u i j =
        let c = ltb-true k (alike old new + 1) i in
        let z : 1 ≤ k = h.from_one in
        let r = alike_same old new (k - 1) (omega arith) in
        absurd (⊎_elim (λ m. omega arith) (λ m. m r.1) h.differs)
    go false true i j =
        let c = ltb-true (alike old new + 1) k j in
        let w : k ≤ length new = h.there in
        let r = h.alike-before (alike old new + 1) (omega arith) c in
        absurd (⊎_elim (λ m. omega (arith, r.0)) (λ m. m (rw (add-sub-one (alike old new)) at r.1))
        (alike-differs old new (omega arith)))
    go false false i j = omega (arith, ltb-false k (alike old new + 1) i, ltb-false (alike old new + 1) k j)

-- of an edit there is one, and it does not pass
fault-alike : {old new : List (List ℕ)} {n : ℕ} → Fault old new n → alike old new ≡ n
unfolding alike
fault-alike (past m ms f) = refl
fault-alike (here l m ls ms d f) = rw (same_false l m d)
fault-alike (later l ls ms n f) = rw (same_refl l) (ap suc (fault-alike f))

fault-there : {old new : List (List ℕ)} {n : ℕ} → Fault old new n → n < length new
fault-there (past m ms f) = omega arith
fault-there (here l m ls ms d f) = omega arith
fault-there (later l ls ms n f) = omega (arith, fault-there f)

pub fault-fails : {old new : List (List ℕ)} {n : ℕ} → Fault old new n → line_refusal (get_or new n []) ≡ 0 → ⊥
fault-fails (past m ms f) = f
fault-fails (here l m ls ms d f) = f
fault-fails (later l ls ms n f) = fault-fails f

pub fault-first : {old new : List (List ℕ)} {n : ℕ} → Fault old new n → (n + 1 ≡ first_new old new) × IsFirstNew old new (n + 1)
unfolding first_new
fault-first {old} {new} {n} f =
    let e = fault-alike f in
    let t = fault-there f in
    let r : alike old new + 1 ≡ n + 1 = ap (λ (k : ℕ). k + 1) e in
    (sym r, subst (λ (k : ℕ). IsFirstNew old new k) r (first-new-is old new (omega arith)))

pub edit-first : {g h : List ℕ} → OneByte g h → Lines (cut_lines g) → (k : ℕ) × IsFirstNew (cut_lines g) (cut_lines h) k
edit-first d p = let f = edit-found d p in (f.0 + 1, (fault-first f.1).1)
