-- Reading by laws: no bytes are no entries, an entry goes before what the bytes behind it read as, and bytes that no entry begins with are
-- no index. The number of turns does not matter where it is more than the bytes, since every entry takes some.
use Prim.Native.Nat.{◌<◌, suc, zero, ℕ}
use mathlib.Core.Path.{◌≡◌, ap, refl}
use mathlib.Core.List.{[], ◌∷◌, List}
use native.Mathlib.Omega.{arith}
use lib.ListN.{length}
use Rattle.index_sevens.specs.Sevens.{take_groups, take_sevens}
use Rattle.index.specs.declared.Entry.{Entry}
use Rattle.index.specs.Index.{bad, entry, entry_of, Head, listed, no_index, onto, read_from, short, then_head, turns_from}
use Rattle.index.proofs.Back.{entry-shorter}

enough : (n m : ℕ) (before : Entry) (s : List ℕ) → length s < n → length s < m → turns_from n before s ≡ turns_from m before s
unfolding turns_from
enough zero m before s h k = let z : ⊥ = omega arith in absurd z
enough (suc n) zero before s h k = let z : ⊥ = omega arith in absurd z
enough (suc n) (suc m) before [] h k = refl
enough (suc n) (suc m) before (b ∷ s) h k = go (λ e rest i j. enough n m e rest i j) (entry_of before (b ∷ s)) refl
  where
    Behind : Type 0
    Behind = (e : Entry) (rest : List ℕ) → length rest < n → length rest < m → turns_from n e rest ≡ turns_from m e rest

    go : Behind → (x : Head) → entry_of before (b ∷ s) ≡ x
        → then_head x (λ e rest. onto e (turns_from n e rest)) ≡ then_head x (λ e rest. onto e (turns_from m e rest))
    go behind short f = refl
    go behind bad f = refl
    go behind (entry e rest) f =
        let i = entry-shorter before e (b ∷ s) rest f in
        ap (onto e) (behind e rest (omega arith) (omega arith))

pub read_none : (before : Entry) → read_from before [] ≡ listed []
unfolding read_from turns_from
read_none before = refl

pub read_next : (before e : Entry) (s rest : List ℕ) → entry_of before s ≡ entry e rest → read_from before s ≡ onto e (read_from e rest)
unfolding read_from turns_from
read_next before e [] rest f = let i = entry-shorter before e [] rest f in let z : ⊥ = omega arith in absurd z
read_next before e (b ∷ s) rest f =
    let i = entry-shorter before e (b ∷ s) rest f in
    rw f (ap (onto e) (enough (suc (length s)) (suc (length rest)) e rest (omega arith) (omega arith)))

pub read_short : (before : Entry) (s : List ℕ) → 0 < length s → entry_of before s ≡ short → read_from before s ≡ no_index
unfolding read_from turns_from
read_short before [] h f = let z : ⊥ = omega arith in absurd z
read_short before (b ∷ s) h f = rw f

pub read-bad : (before : Entry) (s : List ℕ) → entry_of before s ≡ bad → read_from before s ≡ no_index
unfolding read_from turns_from entry_of take_sevens take_groups
read-bad before [] f = let z : ◌≡◌ {A = ℕ} 0 1 = cc in let n : ⊥ = omega arith in absurd n
read-bad before (b ∷ s) f = rw f
