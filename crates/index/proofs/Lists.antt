-- Lists of entries and their bytes: entries in order are read back from their bytes, and bytes that read are the bytes of their entries,
-- which are in order. By going along the entries.
use Prim.Native.Nat.{ℕ}
use mathlib.Core.Path.{◌≡◌, refl, sym, ap, ◌∙◌}
use mathlib.Core.Bool.{true}
use mathlib.Core.List.{List, [], ◌∷◌, ◌++◌, append_assoc, append-nil}
use native.Mathlib.Omega.{arith}
use Rattle.digits.proofs.Bools.{and_left, and_right, and_both}
use Rattle.index.specs.declared.Entry.{Entry}
use Rattle.index.specs.Index.{origin, fits, in_order, entry_bytes, bytes_from, index_bytes, Head, entry, short, bad, entry_of}
use Rattle.index.specs.Index.{Listing, listed, no_index, onto, read_from, read_index}
use Rattle.index.specs.Answers.{last_of}
use Rattle.index.proofs.Back.{entry-back, entry-only}
use Rattle.index.proofs.ReadLaws.{read_none, read_next, read_short, read-bad}

-- What reading as entries means, first entry by first entry.
pub record Headed (before e : Entry) (es : List Entry) (s : List ℕ) : Type 0 where
  pub rest : List ℕ
  pub first : entry_of before s ≡ entry e rest
  pub others : read_from e rest ≡ listed es

never : {A : Type 0} (x : Listing) (es : List Entry) → x ≡ no_index → x ≡ listed es → A
never x es e f = let z : ◌≡◌ {A = ℕ} 0 1 = cc in let n : ⊥ = omega arith in absurd n

pub read-headed : (before e : Entry) (es : List Entry) (s : List ℕ) → read_from before s ≡ listed (e ∷ es) → Headed before e es s
read-headed before e es [] h =
    let z : ◌≡◌ {A = ℕ} 0 1 = cc (sym (read_none before) ∙ h) in let n : ⊥ = omega arith in absurd n
read-headed before e es (b ∷ s) h = go (entry_of before (b ∷ s)) refl
  where
    behind : (d : Entry) (rest : List ℕ) → entry_of before (b ∷ s) ≡ entry d rest → (x : Listing) → read_from d rest ≡ x
        → onto d x ≡ listed (e ∷ es) → Headed before e es (b ∷ s)
    behind d rest f no_index g k = never no_index (e ∷ es) refl k
    behind d rest f (listed ds) g k =
        let a : d ≡ e = cc in
        let same : ds ≡ es = cc in
        record { rest = rest; first = rw (← a) f; others = rw (← a, ← same) g }

    go : (x : Head) → entry_of before (b ∷ s) ≡ x → Headed before e es (b ∷ s)
    go short f = never (read_from before (b ∷ s)) (e ∷ es) (read_short before (b ∷ s) (omega arith) f) h
    go bad f = never (read_from before (b ∷ s)) (e ∷ es) (read-bad before (b ∷ s) f) h
    go (entry d rest) f = behind d rest f (read_from d rest) refl (sym (read_next before d (b ∷ s) rest f) ∙ h)

read-nil : (before : Entry) (s : List ℕ) → read_from before s ≡ listed [] → s ≡ []
read-nil before [] h = refl
read-nil before (b ∷ s) h = go (entry_of before (b ∷ s)) refl
  where
    behind : (d : Entry) (x : Listing) → onto d x ≡ listed [] → b ∷ s ≡ []
    behind d no_index k = never no_index [] refl k
    behind d (listed ds) k = let z : ◌≡◌ {A = ℕ} 0 1 = cc in let n : ⊥ = omega arith in absurd n

    go : (x : Head) → entry_of before (b ∷ s) ≡ x → b ∷ s ≡ []
    go short f = never (read_from before (b ∷ s)) [] (read_short before (b ∷ s) (omega arith) f) h
    go bad f = never (read_from before (b ∷ s)) [] (read-bad before (b ∷ s) f) h
    go (entry d rest) f = behind d (read_from d rest) (sym (read_next before d (b ∷ s) rest f) ∙ h)

-- Entries in order, written and read.
pub from_back : (before : Entry) (es : List Entry) → in_order before es ≡ true → read_from before (bytes_from before es) ≡ listed es
unfolding in_order bytes_from
from_back before [] t = read_none before
from_back before (e ∷ es) t =
    read_next before e (entry_bytes before e ++ bytes_from e es) (bytes_from e es) (entry-back before e (bytes_from e es) (and_left _ _ t))
    ∙ ap (onto e) (from_back e es (and_right (fits before e) _ t))

-- Bytes that read, and the entries that they read as.
pub record Said (before : Entry) (es : List Entry) (s : List ℕ) : Type 0 where
  pub bytes : s ≡ bytes_from before es
  pub ordered : in_order before es ≡ true

pub from-only : (before : Entry) (es : List Entry) (s : List ℕ) → read_from before s ≡ listed es → Said before es s
unfolding in_order bytes_from
from-only before [] s h = record { bytes = read-nil before s h; ordered = refl }
from-only before (e ∷ es) s h =
    let x = read-headed before e es s h in
    let stood = entry-only before e s x.rest x.first in
    let said = from-only e es x.rest x.others in
    record {
      bytes = stood.bytes ∙ ap (λ (l : List ℕ). entry_bytes before e ++ l) said.bytes;
      ordered = and_both (fits before e) (in_order e es) stood.fitting said.ordered;
    }

-- Two lists in order are equal exactly when their bytes are.
pub same_entries : (es ds : List Entry) → in_order origin es ≡ true → in_order origin ds ≡ true → index_bytes es ≡ index_bytes ds → es ≡ ds
same_entries es ds a b h =
    let e : listed es ≡ listed ds = sym (from_back origin es a) ∙ ap read_index h ∙ from_back origin ds b in
    cc

-- An entry more at the end.
pub bytes-more : (before : Entry) (es : List Entry) (e : Entry)
    → bytes_from before (es ++ (e ∷ [])) ≡ bytes_from before es ++ entry_bytes (last_of before es) e
unfolding bytes_from last_of
bytes-more before [] e = append-nil (entry_bytes before e)
bytes-more before (d ∷ es) e =
    ap (λ (l : List ℕ). entry_bytes before d ++ l) (bytes-more d es e)
    ∙ sym (append_assoc (entry_bytes before d) (bytes_from d es) (entry_bytes (last_of d es) e))

pub order-more : (before : Entry) (es : List Entry) (e : Entry) → in_order before es ≡ true → fits (last_of before es) e ≡ true
    → in_order before (es ++ (e ∷ [])) ≡ true
unfolding in_order last_of
order-more before [] e t f = and_both (fits before e) true f refl
order-more before (d ∷ es) e t f =
    and_both (fits before d) (in_order d (es ++ (e ∷ []))) (and_left (fits before d) (in_order d es) t)
    (order-more d es e (and_right (fits before d) (in_order d es) t) f)
