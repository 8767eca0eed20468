-- Reading in turns: an entry, and bytes that no entry begins with, say the same whatever comes behind them; so the whole entries of some
-- bytes, and then the bytes kept with those that come, are what all the bytes read as.
use Prim.Native.Nat.{ℕ}
use mathlib.Core.Path.{◌∙◌, ◌≡◌, ap, refl, sym}
use mathlib.Core.Bool.{Bool, false, true}
use mathlib.Core.List.{[], ◌++◌, ◌∷◌, List}
use native.Mathlib.Omega.{arith}
use Rattle.index_sevens.specs.Sevens.{take_sevens, Took}
use Rattle.index_sevens.specs.Sevens as S
use Rattle.index_sevens.proofs.Turns as T
use Rattle.index.specs.declared.Entry.{Entry}
use Rattle.index.specs.Index.{bad, entry, entry_behind, entry_of, fits, Head, length_of, Listing, no_index, onto, read_from, short}
use Rattle.index.specs.Index.{skip_of, then_took}
use Rattle.digits.specs.Pick.{pick}
use Rattle.index.proofs.ReadLaws.{read-bad, read_next}

abbrev pub more : List ℕ → Head → Head
more t (entry e rest) = entry e (rest ++ t)
more t short = short
more t bad = bad

module _ (s t : List ℕ) (go : ℕ → List ℕ → Head) where
  -- Where what follows a number says the same with more bytes, so does the number with what follows it.
  took_more : ((v : ℕ) (rest : List ℕ) → (go v rest ≡ short → ⊥) → go v (rest ++ t) ≡ more t (go v rest))
      → (then_took (take_sevens s) go ≡ short → ⊥) → then_took (take_sevens (s ++ t)) go ≡ more t (then_took (take_sevens s) go)
  took_more next n = by (take_sevens s) refl
    where
      by : (x : Took) → take_sevens s ≡ x → then_took (take_sevens (s ++ t)) go ≡ more t (then_took (take_sevens s) go)
      by S.short e = absurd (n (ap (λ (x : Took). then_took x go) e))
      by S.bad e =
          let longer : take_sevens (s ++ t) ≡ S.bad = T.sevens-more s t (λ f. apart e f) ∙ ap (T.more t) e in
          ap (λ (x : Took). then_took x go) longer ∙ sym (ap (λ (x : Took). more t (then_took x go)) e)
        where
          apart : take_sevens s ≡ S.bad → take_sevens s ≡ S.short → ⊥
          apart e f = let z : ◌≡◌ {A = ℕ} 0 1 = cc in omega arith
      by (S.value v rest) e =
          let longer : take_sevens (s ++ t) ≡ S.value v (rest ++ t) = T.sevens-more s t (λ f. apart e f) ∙ ap (T.more t) e in
          ap (λ (x : Took). then_took x go) longer
          ∙ next v rest (λ f. n (ap (λ (x : Took). then_took x go) e ∙ f))
          ∙ sym (ap (λ (x : Took). more t (then_took x go)) e)
        where
          apart : take_sevens s ≡ S.value v rest → take_sevens s ≡ S.short → ⊥
          apart e f = let z : ◌≡◌ {A = ℕ} 0 1 = cc in omega arith

pub entry_more : (before : Entry) (s t : List ℕ) → (entry_of before s ≡ short → ⊥) → entry_of before (s ++ t) ≡ more t (entry_of before s)
unfolding entry_of skip_of length_of
entry_more before s t =
    took_more s t (λ gap rest. skip_of before gap rest) λ gap r.
    took_more r t (λ skip rest. length_of before gap skip rest) λ skip q.
    took_more q t (λ size rest. pick (fits before (entry_behind before gap skip size)) (entry (entry_behind before gap skip size) rest) bad)
    λ size p n. picked (fits before (entry_behind before gap skip size)) (entry_behind before gap skip size) p
  where
    picked : (z : Bool) (e : Entry) (p : List ℕ) → pick z (entry e (p ++ t)) bad ≡ more t (pick z (entry e p) bad)
    picked true e p = refl
    picked false e p = refl

-- The entries that some bytes begin with, one after the other, the last of them, and the bytes that are kept.
pub data Begins : Entry → List ℕ → List Entry → Entry → List ℕ → Type 0 where
  none : {before : Entry} {s : List ℕ} → Begins before s [] before s
  one : {before e last : Entry} {s rest kept : List ℕ} {es : List Entry} → entry_of before s ≡ entry e rest → Begins e rest es last kept
      → Begins before s (e ∷ es) last kept

abbrev pub onto_all : List Entry → Listing → Listing
onto_all [] x = x
onto_all (e ∷ es) x = onto e (onto_all es x)

pub turns : {before last : Entry} {s kept : List ℕ} {es : List Entry} → Begins before s es last kept → (t : List ℕ)
    → read_from before (s ++ t) ≡ onto_all es (read_from last (kept ++ t))
turns none t = refl
turns {before} {last} {s} (one {e = e} {rest = rest} f b) t =
    read_next before e (s ++ t) (rest ++ t) (entry_more before s t (λ g. apart f g) ∙ ap (more t) f) ∙ ap (onto e) (turns b t)
  where
    apart : entry_of before s ≡ entry e rest → entry_of before s ≡ short → ⊥
    apart f g = let z : ◌≡◌ {A = ℕ} 0 1 = cc in omega arith

-- No bytes that come mend bytes that no entry begins with.
pub bad-stays : (before : Entry) (s t : List ℕ) → entry_of before s ≡ bad → read_from before (s ++ t) ≡ no_index
bad-stays before s t f = read-bad before (s ++ t) (entry_more before s t (λ g. apart g) ∙ ap (more t) f)
  where
    apart : entry_of before s ≡ short → ⊥
    apart g = let z : ◌≡◌ {A = ℕ} 0 1 = cc in omega arith
