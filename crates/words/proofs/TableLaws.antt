-- The rows of a table from byte i on are what that byte puts and the rows from the next one on.
use mathlib.Core.Logic.{◌⊎◌, inl, inr}
use Rattle.words.specs.declared.table.Mode.{Mode}
use Rattle.words.specs.declared.table.Mode.TheVariants as S
use Rattle.words.specs.Table.{number}
use mathlib.Core.Bool.{false}
use lib.Dec.{eqb}
use Prim.Native.Nat.{ℕ, zero, suc, ◌+◌, ◌-◌, ◌≤◌, ◌<◌}
use mathlib.Core.Path.{◌≡◌, refl}
use mathlib.Core.List.{List}
use native.Mathlib.Omega.{arith}
use native.Mathlib.Numerals.{add-one}
use lib.IntN.{ℤ}
use lib.ListN.{length, get_or, take, drop, drop_of_length-le}
use lib.Seq.{drop-cons, drop-drop}
use Rattle.put.specs.Wrote.{Held, wrote, Puts}
use Rattle.put.proofs.Chain.{wrote-append}
use Rattle.words.specs.Table.{step_text, step_state, step_taken, filled}
use Rattle.words.specs.Words.{entry_table, entries_text}
use Rattle.words.proofs.FormLaws.{part-is}

abbrev left : List ℤ → ℕ → List ℤ
left ns n = take (length ns - n) (drop n ns)

module _ (table : List ℕ) (ns : List ℤ) (i q n : ℕ) (h : i < length table) where
  pub fill-next : {g k : Held} (r m t : ℕ) → Puts g (step_text q (get_or table i 0) (left ns n)) k → t ≡ step_taken q (get_or table i 0)
      → drop m ns ≡ drop t (drop n ns) → r ≡ step_state q (get_or table i 0) (left ns n)
      → wrote k (filled r (drop (i + 1) table) (drop m ns)) ≡ wrote g (filled q (drop i table) (drop n ns))
  unfolding filled
  fill-next {g} {k} r m t p a b c =
      let put : Puts g (step_text q (get_or table i 0) (drop n ns)) k = rw (part-is ns n) at p in
      let state : r ≡ step_state q (get_or table i 0) (drop n ns) = rw (part-is ns n) at c in
      rw (state, b, a, put.is, drop-cons table i 0 h, add-one i, wrote-append g (step_text q (get_or table i 0) (drop n ns)) _)

pub fill_end : (table : List ℕ) (ns : List ℤ) (i q : ℕ) (g : Held) → length table ≤ i → g ≡ wrote g (filled q (drop i table) ns)
unfolding filled wrote
fill_end table ns i q g h = rw (drop_of_length-le table h)

-- The rows of n satellites are those of one and of n - 1 from its seventh number on.
module _ (ns : List ℤ) where
  pub entries_next : {g k : Held} (n from : ℕ) → 0 < n → Puts g (filled 0 entry_table (drop from ns)) k
      → wrote k (entries_text (n - 1) (drop (from + 7) ns)) ≡ wrote g (entries_text n (drop from ns))
  unfolding entries_text
  entries_next zero from h p = let z : ⊥ = omega arith in absurd z
  entries_next {g} {k} (suc n) from h p =
      let one : suc n - 1 ≡ n = omega arith in
      rw (one, p.is, ← drop-drop 7 from ns, wrote-append g (filled 0 entry_table (drop from ns)) _)

  pub entries-end : (n from : ℕ) (g : Held) → n ≤ 0 → g ≡ wrote g (entries_text n (drop from ns))
  unfolding entries_text wrote
  entries-end zero from g h = refl
  entries-end (suc n) from g h = let z : ⊥ = omega arith in absurd z

-- In a name or a unit no form is met, and before a unit that is passed over nothing is.
pub no-form : {q : Mode} → (q ≡ S.Name) ⊎ (q ≡ S.Passed) → eqb (number q) 1 ≡ false
no-form (inl e) = rw e
no-form (inr e) = rw e

pub not-passed : {q : Mode} → (q ≡ S.Name) ⊎ (q ≡ S.Form) → eqb (number q) 2 ≡ false
not-passed (inl e) = rw e
not-passed (inr e) = rw e
