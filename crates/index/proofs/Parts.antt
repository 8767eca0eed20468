-- The three numbers of an entry at a place, one after the other: what is taken of each decides what the rest comes to.
use Prim.Native.Nat.{◌+◌, ◌-◌, ℕ}
use mathlib.Core.Path.{◌∙◌, ◌≡◌, ap, refl}
use mathlib.Core.Bool.{Bool, false, true}
use mathlib.Core.List.{List}
use native.Mathlib.Omega.{arith}
use lib.ListN.{drop, get_or, length, length-drop}
use Rattle.index_sevens.specs.Sevens.{take_sevens}
use Rattle.index_sevens.specs.Sevens as S
use Rattle.index_sevens.proofs.Taking.{taken-small, TakenUp}
use Rattle.index.specs.declared.Entry.{Entry}
use Rattle.index.specs.declared.Next.TheVariants as N
use Rattle.index.specs.Index.{bad, entry, entry_behind, entry_of, fits, length_of, skip_of}
use Rattle.digits.specs.Pick.{pick}
use Rattle.index.specs.Places.{Near, next_at}

picked : (n : ℕ) (t : Bool) (e : Entry) (rest : List ℕ) (a : ℕ) → a ≡ n - length rest
    → pick t (N.Is e a) N.Bad ≡ next_at n (pick t (entry e rest) bad)
picked n true e rest a h = ap (N.Is e) h
picked n false e rest a h = refl

module _ (s : List ℕ) (at : ℕ) (last : Entry) where
  pub length-value : (gap skip v a : ℕ) → TakenUp s at v a
      → pick (fits last (entry_behind last gap skip v)) (N.Is (entry_behind last gap skip v) a) N.Bad ≡ next_at (length s)
      (length_of last gap skip (drop at s))
  unfolding length_of
  length-value gap skip v a t =
      let place : a ≡ length s - length (drop a s) = omega (arith, length-drop a s, t.inside) in
      rw t.is (picked (length s) (fits last (entry_behind last gap skip v)) (entry_behind last gap skip v) (drop a s) a place)

  pub length-short : (gap skip : ℕ) → take_sevens (drop at s) ≡ S.short → N.Short ≡ next_at (length s) (length_of last gap skip (drop at s))
  unfolding length_of
  length-short gap skip e = rw e

  pub length-bad : (gap skip : ℕ) → take_sevens (drop at s) ≡ S.bad → N.Bad ≡ next_at (length s) (length_of last gap skip (drop at s))
  unfolding length_of
  length-bad gap skip e = rw e

  pub skip-value : (gap v a : ℕ) → TakenUp s at v a → length_of last gap v (drop a s) ≡ skip_of last gap (drop at s)
  unfolding skip_of
  skip-value gap v a t = rw t.is

  pub skip-short : (gap : ℕ) → take_sevens (drop at s) ≡ S.short → N.Short ≡ next_at (length s) (skip_of last gap (drop at s))
  unfolding skip_of
  skip-short gap e = rw e

  pub skip-bad : (gap : ℕ) → take_sevens (drop at s) ≡ S.bad → N.Bad ≡ next_at (length s) (skip_of last gap (drop at s))
  unfolding skip_of
  skip-bad gap e = rw e

  pub gap-value : (v a : ℕ) → TakenUp s at v a → skip_of last v (drop a s) ≡ entry_of last (drop at s)
  unfolding entry_of
  gap-value v a t = rw t.is

  pub gap-short : take_sevens (drop at s) ≡ S.short → N.Short ≡ next_at (length s) (entry_of last (drop at s))
  unfolding entry_of
  gap-short e = rw e

  pub gap-bad : take_sevens (drop at s) ≡ S.bad → N.Bad ≡ next_at (length s) (entry_of last (drop at s))
  unfolding entry_of
  gap-bad e = rw e

-- Three bytes that are a number each make an entry at once.
pub near-is : (s : List ℕ) (at : ℕ) (last : Entry) → Near s at
    → pick (fits last (entry_behind last (get_or s at 0) (get_or s (at + 1) 0) (get_or s (at + 2) 0)))
    (N.Is (entry_behind last (get_or s at 0) (get_or s (at + 1) 0) (get_or s (at + 2) 0)) (at + 3)) N.Bad
    ≡ next_at (length s) (entry_of last (drop at s))
near-is s at last n =
    let first = taken-small s at (omega (arith, n.inside)) n.first in
    let two : at + 1 + 1 ≡ at + 2 = omega arith in
    let second : TakenUp s (at + 1) (get_or s (at + 1) 0) (at + 2) = rw two at
    (taken-small s (at + 1) (omega (arith, n.inside)) n.second) in
    let three : at + 2 + 1 ≡ at + 3 = omega arith in
    let third : TakenUp s (at + 2) (get_or s (at + 2) 0) (at + 3) = rw three at
    (taken-small s (at + 2) (omega (arith, n.inside)) n.third) in
    length-value s (at + 2) last (get_or s at 0) (get_or s (at + 1) 0) (get_or s (at + 2) 0) (at + 3) third
    ∙ ap (next_at (length s)) (skip-value s (at + 1) last (get_or s at 0) (get_or s (at + 1) 0) (at + 2) second ∙ gap-value s at last
    (get_or s at 0) (at + 1) first)
