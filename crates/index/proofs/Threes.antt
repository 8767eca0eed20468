-- Three numbers: stored where there is room for all of them; and the entry of the next three, before those behind it.
use Prim.Native.Nat.{ℕ, suc, ◌+◌, ◌-◌, ◌≤◌, ◌<◌}
use mathlib.Core.Path.{◌≡◌, refl, ap}
use mathlib.Core.Bool.{Bool, ◌&&◌}
use mathlib.Core.List.{List, [], ◌∷◌, ◌++◌}
use native.Mathlib.Omega.{arith}
use lib.ListN.{length, get_or, set, drop, length-set}
use lib.Seq.{drop-cons}
use Rattle.put.specs.Wrote.{held, Puts}
use Rattle.put.proofs.Chain.{put-room, ◌⨾◌}
use Rattle.index.specs.declared.Entry.{Entry}
use Rattle.index.specs.Index.{fits, in_order, entry_bytes, bytes_from}
use Rattle.index.specs.Answers.{entries_of, three_at}
use Rattle.index.specs.Places.{tip}
use Rattle.index.proofs.Ranges.{three-small}
use Rattle.index.proofs.Tips.{order_same, bytes_same}

-- Three numbers stored where there is room for all of them.
pub three-room : (p a b c : ℕ) (d : List ℕ) → p + 3 ≤ length d
    → Puts (held p d) (a ∷ (b ∷ (c ∷ []))) (held (p + 3) (set (set (set d p a) (p + 1) b) (p + 2) c))
three-room p a b c d h =
    let one : p + 1 + 1 ≡ p + 2 = omega arith in
    let two : p + 2 + 1 ≡ p + 3 = omega arith in
    let second : p + 1 < length (set d p a) = rw (length-set d p a) (omega arith) in
    let third : p + 2 < length (set (set d p a) (p + 1) b) = rw (length-set (set d p a) (p + 1) b, length-set d p a) (omega arith) in
    let put_b = rw one at (put-room (p + 1) (set d p a) b second) in
    let put-c = rw two at (put-room (p + 2) (set (set d p a) (p + 1) b) c third) in
    put-room p d a (omega arith) ⨾ put_b ⨾ put-c

-- The entry of the next three numbers, and none where there are fewer.
pub three-next : (ns : List ℕ) (i : ℕ) → i + 3 ≤ length ns → entries_of (drop i ns) ≡ three_at ns i ∷ entries_of (drop (i + 3) ns)
unfolding entries_of
three-next ns i h =
    let two : suc i ≡ i + 1 = omega arith in
    let three : suc (i + 1) ≡ i + 2 = omega arith in
    let four : suc (i + 2) ≡ i + 3 = omega arith in
    rw (drop-cons ns i 0 (omega arith), two, drop-cons ns (i + 1) 0 (omega arith), three, drop-cons ns (i + 2) 0 (omega arith), four)

pub three-none : (ns : List ℕ) → length ns < 3 → entries_of ns ≡ []
unfolding entries_of
three-none [] h = refl
three-none (a ∷ []) h = refl
three-none (a ∷ (b ∷ [])) h = refl
three-none (a ∷ (b ∷ (c ∷ ns))) h = let z : ⊥ = omega arith in absurd z

-- Whether the entries from a place on are in order, and their bytes: of the first of them, and of the others behind it.
module _ (ns : List ℕ) (i : ℕ) (before : Entry) (l : i + 3 ≤ length ns) where
  pub order-next : in_order before (entries_of (drop i ns))
      ≡ (fits before (three_at ns i) && in_order (tip (get_or ns i 0) (get_or ns (i + 1) 0 + get_or ns (i + 2) 0)) (entries_of (drop (i + 3) ns)))
  unfolding in_order
  order-next =
      rw (three-next ns i l) (ap (λ (b : Bool). fits before (three_at ns i) && b)
      (order_same (three_at ns i) (tip (get_or ns i 0) (get_or ns (i + 1) 0 + get_or ns (i + 2) 0)) refl (omega arith)
      (entries_of (drop (i + 3) ns))))

  pub bytes_next : bytes_from before (entries_of (drop i ns))
      ≡ entry_bytes before (three_at ns i) ++ bytes_from (tip (get_or ns i 0) (get_or ns (i + 1) 0 + get_or ns (i + 2) 0)) (entries_of (drop (i + 3)
      ns))
  unfolding bytes_from
  bytes_next =
      rw (three-next ns i l) (ap (λ (s : List ℕ). entry_bytes before (three_at ns i) ++ s)
      (bytes_same (three_at ns i) (tip (get_or ns i 0) (get_or ns (i + 1) 0 + get_or ns (i + 2) 0)) refl (omega arith)
      (entries_of (drop (i + 3) ns))))

-- An entry whose three numbers take a byte each.
pub three-bytes : (ns : List ℕ) (i number end : ℕ) → get_or ns i 0 - number < 128 → get_or ns (i + 1) 0 - end < 128 → get_or ns (i + 2) 0 < 128
    → (get_or ns i 0 - number) ∷ ((get_or ns (i + 1) 0 - end) ∷ (get_or ns (i + 2) 0 ∷ [])) ≡ entry_bytes (tip number end) (three_at ns i)
three-bytes ns i number end a b c =
    three-small (tip number end) (three_at ns i) (get_or ns i 0 - number) (get_or ns (i + 1) 0 - end) refl (omega arith) a b c
