-- An entry at a place of a slice: the bytes behind it are those from the place that is answered on; so reading from a place goes on from
-- the next.
use Prim.Native.Nat.{ℕ, ◌+◌, ◌-◌, ◌≤◌, ◌<◌}
use mathlib.Core.Path.{◌≡◌, refl, sym, ap, ◌∙◌}
use mathlib.Core.List.{List, []}
use native.Mathlib.Omega.{arith}
use lib.ListN.{length, drop, length-append, length-drop, drop_of_length-le}
use lib.Seq.{drop-drop, drop_at}
use Rattle.index.specs.declared.Entry.{Entry}
use Rattle.index.specs.declared.Next.{Next}
use Rattle.index.specs.declared.Next.TheVariants as N
use Rattle.index.specs.Index.{entry_bytes, Head, entry, short, bad, entry_of, listed, no_index, onto, read_from}
use Rattle.index.specs.Places.{next_at}
use Rattle.index.proofs.Ranges.{Fits, fits-is}
use Rattle.index.proofs.Back.{entry-only, entry-some}
use Rattle.index.proofs.ReadLaws.{read_none, read_next, read_short, read-bad}

-- An entry by its three numbers.
abbrev pub by : ℕ → ℕ → ℕ → Entry
by number offset size = record { number = number; offset = offset; length = size }

pub record Entered (s : List ℕ) (at : ℕ) (last e : Entry) (p : ℕ) : Type 0 where
  pub reads : read_from last (drop at s) ≡ onto e (read_from e (drop p s))
  pub on : at < p
  pub inside : p ≤ length s
  pub fitting : Fits last e

module _ (s : List ℕ) (at : ℕ) (last : Entry) where
  pub entered : {x : Next} {e : Entry} {p : ℕ} → x ≡ next_at (length s) (entry_of last (drop at s)) → x ≡ N.Is e p → Entered s at last e p
  entered {x} {e} {p} f h = go (entry_of last (drop at s)) refl (sym f ∙ h)
    where
      go : (x : Head) → entry_of last (drop at s) ≡ x → next_at (length s) x ≡ N.Is e p → Entered s at last e p
      go short f g = let z : ◌≡◌ {A = ℕ} 0 1 = cc in let n : ⊥ = omega arith in absurd n
      go bad f g = let z : ◌≡◌ {A = ℕ} 0 1 = cc in let n : ⊥ = omega arith in absurd n
      go (entry d rest) f g =
          let a : d ≡ e = cc in
          let q : length s - length rest ≡ p = cc in
          let stood = entry-only last d (drop at s) rest f in
          let bytes = stood.bytes in
          let long : length s - at ≡ length (entry_bytes last d) + length rest = sym (length-drop at s) ∙ ap length bytes ∙ length-append
          (entry_bytes last d) rest in
          let some = entry-some last d in
          let place : at + length (entry_bytes last d) ≡ p = omega arith in
          let behind : drop p s ≡ rest = rw (← place, ← drop-drop, bytes) (drop_at (entry_bytes last d) rest _ refl) in
          record {
            reads = rw behind (read_next last e (drop at s) rest (rw (← a) f));
            on = omega arith;
            inside = omega arith;
            fitting = rw (← a) (fits-is last d stood.fitting);
          }

  pub entered-none : length s ≤ at → read_from last (drop at s) ≡ listed []
  entered-none h = rw (drop_of_length-le s h) (read_none last)

  pub entered-short : {x : Next} → at < length s → x ≡ next_at (length s) (entry_of last (drop at s)) → x ≡ N.Short
      → read_from last (drop at s) ≡ no_index
  entered-short i f h = go (entry_of last (drop at s)) refl (sym f ∙ h)
    where
      go : (x : Head) → entry_of last (drop at s) ≡ x → next_at (length s) x ≡ N.Short → read_from last (drop at s) ≡ no_index
      go short f g = read_short last (drop at s) (omega (arith, length-drop at s)) f
      go bad f g = let z : ◌≡◌ {A = ℕ} 0 1 = cc in let n : ⊥ = omega arith in absurd n
      go (entry d rest) f g = let z : ◌≡◌ {A = ℕ} 0 1 = cc in let n : ⊥ = omega arith in absurd n

  pub entered-bad : {x : Next} → x ≡ next_at (length s) (entry_of last (drop at s)) → x ≡ N.Bad → read_from last (drop at s) ≡ no_index
  entered-bad f h = go (entry_of last (drop at s)) refl (sym f ∙ h)
    where
      go : (x : Head) → entry_of last (drop at s) ≡ x → next_at (length s) x ≡ N.Bad → read_from last (drop at s) ≡ no_index
      go bad f g = read-bad last (drop at s) f
      go short f g = let z : ◌≡◌ {A = ℕ} 0 1 = cc in let n : ⊥ = omega arith in absurd n
      go (entry d rest) f g = let z : ◌≡◌ {A = ℕ} 0 1 = cc in let n : ⊥ = omega arith in absurd n
