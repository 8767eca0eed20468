-- The bytes of entries, put one after another: since the entries from a place on are in order and there is room for their bytes, the first
-- of them fits, there is room for it, and the others are in order behind it.
use Prim.Native.Nat.{ℕ, ◌+◌, ◌-◌, ◌≤◌, ◌<◌}
use mathlib.Core.Path.{◌≡◌, refl, sym, ap, ◌∙◌}
use mathlib.Core.List.{List, [], ◌∷◌}
use native.Mathlib.Omega.{arith}
use lib.ListN.{length, get_or, drop, length-append, length-drop}
use Rattle.digits.proofs.Bools.{and_left, and_right}
use Rattle.put.specs.Wrote.{Held, held, wrote, Puts}
use Rattle.put.proofs.Chain.{wrote-append, put-fits}
use Rattle.index.specs.declared.Entry.{Entry}
use Rattle.index.specs.declared.writing.Reached.{Reached}
use Rattle.index.specs.Index.{end_of, fits, entry_bytes, bytes_from, index_bytes}
use Rattle.index.specs.Answers.{entries_of, three_at}
use Rattle.index.specs.Places.{tip, reached_at, bytes_left, Ordered, Close, Putting, PutsOn}
use Rattle.index.proofs.Ranges.{Fits, fits-is}
use Rattle.index.proofs.Threes.{three-none, order-next, bytes_next, three-bytes}

pub ordered-fits : {ns : List ℕ} {i number end : ℕ} → Ordered ns i number end → i + 3 ≤ length ns → Fits (tip number end) (three_at ns i)
ordered-fits {ns} {i} {number} {end} x l =
    fits-is (tip number end) (three_at ns i) (and_left _ _ (sym (order-next ns i (tip number end) l) ∙ x.order))

-- The bytes of the next entry, and of the others.
bytes-long : (ns : List ℕ) (i : ℕ) (before : Entry) → i + 3 ≤ length ns → length (bytes_from before (entries_of (drop i ns)))
    ≡ length (entry_bytes before (three_at ns i))
    + length (bytes_from (tip (get_or ns i 0) (get_or ns (i + 1) 0 + get_or ns (i + 2) 0)) (entries_of (drop (i + 3) ns)))
bytes-long ns i before l =
    ap length (bytes_next ns i before l) ∙ length-append (entry_bytes before (three_at ns i))
    (bytes_from (tip (get_or ns i 0) (get_or ns (i + 1) 0 + get_or ns (i + 2) 0)) (entries_of (drop (i + 3) ns)))

pub puts-start : (ns out : List ℕ) (p : Reached) → Putting ns out p → PutsOn ns out p out p
puts-start ns out p x = record { on = omega arith; puts = x; writes = refl }

module _ {ns out₀ out left : List ℕ} {p₀ p : Reached} {used : ℕ} (x : PutsOn ns out₀ p₀ out p) (l : p.at + 3 ≤ length ns)
    (same : length left ≡ length out) where
  puts-three : Puts (held p.used out) (entry_bytes (tip p.number p.end) (three_at ns p.at)) (held used left)
      → PutsOn ns out₀ p₀ left (reached_at (p.at + 3) (get_or ns p.at 0) (get_or ns (p.at + 1) 0 + get_or ns (p.at + 2) 0) used)
  puts-three put =
      let y = x.puts in
      let bytes : List ℕ = entry_bytes (tip p.number p.end) (three_at ns p.at) in
      let q : Reached = reached_at (p.at + 3) (get_or ns p.at 0) (get_or ns (p.at + 1) 0 + get_or ns (p.at + 2) 0) used in
      let long = bytes-long ns p.at (tip p.number p.end) l in
      let place : used ≡ p.used + length (entry_bytes (tip p.number p.end) (three_at ns p.at)) =
      ap (λ (h : Held). h.place) (put.is ∙ put-fits p.used out (entry_bytes (tip p.number p.end) (three_at ns p.at))
      (omega (arith, y.room, long))) in
      record {
        on = omega (arith, x.on);
        puts = record {
          ordered = record {
            inside = l;
            order = and_right (fits (tip p.number p.end) (three_at ns p.at)) _
                (sym (order-next ns p.at (tip p.number p.end) l) ∙ y.ordered.order);
          };
          room = omega (arith, y.room, long);
        };
        writes =
            ap (λ (h : Held). wrote h (bytes_left ns q)) put.is
            ∙ sym (wrote-append (held p.used out) bytes (bytes_left ns q))
            ∙ ap (wrote (held p.used out)) (sym (bytes_next ns p.at (tip p.number p.end) l))
            ∙ x.writes;
      }

  pub puts-next : {e : Entry} → e ≡ three_at ns p.at → Puts (held p.used out) (entry_bytes (tip p.number p.end) e) (held used
      left)
      → PutsOn ns out₀ p₀ left (reached_at (p.at + 3) e.number (end_of e) used)
  puts-next is put = rw is (puts-three (rw is at put))

pub puts-on : {ns out₀ out left : List ℕ} {p₀ p q : Reached} → PutsOn ns out₀ p₀ out p → PutsOn ns out p left q → PutsOn ns out₀ p₀ left q
puts-on x y = record { on = omega (arith, x.on, y.on); puts = y.puts; writes = y.writes ∙ x.writes }

-- An entry of three bytes, where the entries are in order and there is room.
pub record Turn (ns out : List ℕ) (i number end place : ℕ) : Type 0 where
  pub fit : Fits (tip number end) (three_at ns i)
  pub bytes : (get_or ns i 0 - number) ∷ ((get_or ns (i + 1) 0 - end) ∷ (get_or ns (i + 2) 0 ∷ [])) ≡ entry_bytes (tip number end) (three_at ns i)
  pub room : place + 3 ≤ length out

pub turn : {ns out : List ℕ} {i number end place : ℕ} → Putting ns out (reached_at i number end place) → Close ns i number end
    → Turn ns out i number end place
turn {ns} {out} {i} {number} {end} {place} x q =
    let fit = ordered-fits x.ordered q.inside in
    let bytes = three-bytes ns i number end q.gap q.skip (omega (arith, fit.longest)) in
    record {
      fit = fit;
      bytes = bytes;
      room = omega (arith, x.room, bytes-long ns i (tip number end) q.inside, ap length bytes);
    }

-- All bytes put.
pub put_all : {ns out₀ out : List ℕ} {p : Reached} → PutsOn ns out₀ (reached_at 0 0 0 0) out p → length ns - p.at < 3
    → Puts (held 0 out₀) (index_bytes (entries_of ns)) (held p.used out)
unfolding bytes_from wrote
put_all {ns} {out₀} {out} {p} x l =
    let none : entries_of (drop p.at ns) ≡ [] = three-none (drop p.at ns) (omega (arith, length-drop p.at ns)) in
    record {
      is = sym (ap (λ (es : List Entry). wrote (held p.used out) (bytes_from (tip p.number p.end) es)) none) ∙ x.writes;
    }
