-- What comes behind an entry depends on its number and the end of its line alone: what bytes read as, whether entries are in order, and
-- their bytes.
use Prim.Native.Nat.{ℕ}
use mathlib.Core.Path.{◌≡◌, refl}
use mathlib.Core.List.{List, [], ◌∷◌}
use Rattle.index.specs.declared.Entry.{Entry}
use Rattle.index.specs.Index.{end_of, fits, in_order, entry_bytes, bytes_from, length_of, skip_of, entry_of, turns_from, read_from}

module _ (a b : Entry) (n : a.number ≡ b.number) (e : end_of a ≡ end_of b) where
  entry-same : (s : List ℕ) → entry_of a s ≡ entry_of b s
  unfolding entry_of skip_of length_of fits
  entry-same s = simp (n, e)

  pub read_same : (s : List ℕ) → read_from a s ≡ read_from b s
  unfolding read_from turns_from
  read_same [] = refl
  read_same (c ∷ s) = rw (entry-same (c ∷ s))

  pub order_same : (es : List Entry) → in_order a es ≡ in_order b es
  unfolding in_order fits
  order_same [] = refl
  order_same (d ∷ es) = rw (n, e)

  pub bytes_same : (es : List Entry) → bytes_from a es ≡ bytes_from b es
  unfolding bytes_from entry_bytes
  bytes_same [] = refl
  bytes_same (d ∷ es) = rw (n, e)
