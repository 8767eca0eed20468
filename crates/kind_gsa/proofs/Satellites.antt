-- The satellites of a GSA as a list: the first that is out of its range, and their fields.
use Prim.Native.Nat.{suc, zero, ◌+◌, ◌<◌, ◌≤◌, ℕ}
use mathlib.Core.Bool.{Bool, cond, false, true}
use mathlib.Core.List.{[], ◌∷◌, List}
use mathlib.Core.Path.{◌∙◌, ◌≡◌, ap, refl, subst, sym}
use native.Mathlib.Omega.{arith}
use lib.Dec.{leb}
use native.Mathlib.Numerals.{add-one}
use lib.ListN.{drop, get_or, length, length-drop, take}
use lib.Seq.{take_all}
use Rattle.std.proofs.Math.Seq.{take-suc}
use Rattle.std.proofs.lemmas.List.{map-append, take-append-drop}
use Rattle.std.specs.List.{AllWithin, HoldsAt}
use Rattle.std.specs.Prelude.{◌&&◌, map}
use Rattle.put.specs.Wrote.{Held, PutsFields}
use Rattle.put.proofs.Chain.{◌then◌}
use Rattle.form.specs.Values.{no_maybe, outside, range_wrong}
use Rattle.form.specs.Wrong.{near_of}
use Rattle.form.specs.declared.Maybe.{Maybe}
use Rattle.numbers.specs.Layout.{from}
use Rattle.numbers.proofs.Arrays.{from_all}
use Rattle.kind_gsa.specs.Row.{satellite, satellite_text, twelve_in, twelve_row}

outside-one : (lo hi v : ℕ) → (outside lo hi v ≡ 0 → ⊥) → outside lo hi v ≡ 1
unfolding outside
outside-one lo hi v = go (leb lo v && leb v hi)
  where
    go : (b : Bool) → (◌≡◌ {A = ℕ} (cond b 0 1) 0 → ⊥) → ◌≡◌ {A = ℕ} (cond b 0 1) 1
    go true h = absurd (h refl)
    go false h = refl

range-one : (lo hi : ℕ) (there : Bool) (v : ℕ) → (range_wrong lo hi there v ≡ 0 → ⊥) → range_wrong lo hi there v ≡ 1
unfolding range_wrong
range-one lo hi true v = outside-one lo hi v
range-one lo hi false v = outside-one 0 0 v

abbrev pub IsWrong : Maybe → Type 0
IsWrong m = satellite.fault m ≡ 0 → ⊥

abbrev pub IsRight : Maybe → Type 0
IsRight m = satellite.fault m ≡ 0

-- The first wrong field of satellites that stand after n fields.
abbrev chain : ℕ → List Maybe → ℕ → ℕ
chain n [] rest = rest
chain n (m ∷ s) rest = near_of n (satellite.fault m) (chain (n + 1) s rest)

chain-none : (n : ℕ) (s : List Maybe) (rest : ℕ) → ((k : ℕ) → k < length s → IsRight (get_or s k no_maybe)) → rest ≡ chain n s rest
unfolding near_of
chain-none n [] rest right = refl
chain-none n (m ∷ s) rest right =
    chain-none (n + 1) s rest (λ k l. right (suc k) (omega arith)) ∙ rw (right 0 (omega arith))

chain-some : (n : ℕ) (s : List Maybe) (rest i : ℕ) → i < length s → IsWrong (get_or s i no_maybe)
    → ((k : ℕ) → k < i → IsRight (get_or s k no_maybe)) → i + (n + 1) ≡ chain n s rest
unfolding near_of
chain-some n [] rest i l here right = absurd (omega (arith, l))
chain-some n (m ∷ s) rest zero l here right = rw (range-one _ _ m.there m.value here) (omega arith)
chain-some n (m ∷ s) rest (suc i) l here right =
    rw (right 0 (omega arith)) (omega (arith, chain-some (n + 1) s rest i (omega arith) here (λ k j. right (suc k) (omega arith))))

module _ (s : List Maybe) (full : length s ≡ 12) (rest : ℕ) where
  as_list : chain 2 s rest ≡ twelve_row.fault (twelve_in s) 2 rest
  as_list = ap (λ (l : List Maybe). chain 2 l rest) (sym (from_all no_maybe s 12 full))

  pub all-right : AllWithin IsRight s 0 (length s) → rest ≡ twelve_row.fault (twelve_in s) 2 rest
  all-right h = chain-none 2 s rest (λ k l. h k no_maybe (omega arith) l) ∙ as_list

  pub first-wrong : (i : ℕ) → (i < length s) × HoldsAt IsWrong s i × AllWithin IsRight s 0 i → i + 3 ≡ twelve_row.fault (twelve_in s) 2 rest
  first-wrong i h = chain-some 2 s rest i h.0 (h.1 no_maybe) (λ k l. h.2 k no_maybe (omega arith) l) ∙ as_list

-- As many as there are behind the first n are all of those.
pub all-behind : (s : List Maybe) (n m : ℕ) → length s ≤ n + m → take m (drop n s) ≡ drop n s
all-behind s n m long = take_all m (drop n s) (simp length-drop (omega (arith, long)))

-- The fields of satellites, of the first n and then of those behind them; one more; and twelve.
pub two-parts : (s : List Maybe) (n : ℕ) (last : List Maybe) {h g k : Held} → PutsFields h (map satellite_text (take n s)) g
    → PutsFields g (map satellite_text last) k → last ≡ drop n s → PutsFields h (map satellite_text s) k
two-parts s n last {h} {g} {k} p q behind =
    let rest = subst (λ (l : List Maybe). PutsFields g (map satellite_text l) k) behind q in
    subst (λ (fs : List (List ℕ)). PutsFields h fs k)
    (sym (map-append satellite_text (take n s) (drop n s)) ∙ ap (map satellite_text) (take-append-drop n s))
    (p then rest)

pub one-field-more : (s : List Maybe) (i : ℕ) {h g k : Held} → i < length s → PutsFields h (map satellite_text (take i s)) g
    → PutsFields g (satellite_text (get_or s i no_maybe) ∷ []) k → PutsFields h (map satellite_text (take (i + 1) s)) k
one-field-more s i {h} {k = k} l p q =
    subst (λ (fs : List (List ℕ)). PutsFields h fs k)
    (sym (ap (λ (n : ℕ). map satellite_text (take n s)) (add-one i)
    ∙ ap (map satellite_text) (take-suc s i no_maybe l)
    ∙ map-append satellite_text (take i s) (get_or s i no_maybe ∷ [])))
    (p then q)

pub twelve-fields : (s : List Maybe) → length s ≡ 12 → {h k : Held} → PutsFields h (map satellite_text s) k
    → PutsFields h (map satellite_text (from no_maybe s 0 12)) k
twelve-fields s full {h} {k} p =
    subst (λ (l : List Maybe). PutsFields h (map satellite_text l) k) (sym (from_all no_maybe s 12 full)) p
