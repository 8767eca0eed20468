-- How many entries a group has before each line: four a line, until all its satellites are there.
use Prim.Native.Nat.{◌*◌, ◌+◌, ◌-◌, ◌≤◌, ℕ}
use mathlib.Core.Bool.{◌&&◌, true}
use mathlib.Core.List.{List}
use mathlib.Core.Path.{◌∙◌, ◌≡◌, ap, sym}
use native.Mathlib.Omega.{arith}
use Rattle.std.specs.Prelude.{None, Option, Some}
use lib.Dec.{eqb, leb}
use borrow.Author.Tests.{eqb-true, leb-true}
use Rattle.digits.proofs.Bools.{and_left, and_right}
use Rattle.address.specs.declared.Talker.{Talker}
use Rattle.kind_gsv.specs.declared.Entry.{Entry}
use Rattle.kind_gsv.specs.declared.Gsv.{Gsv}
use Rattle.sky.specs.Group.{entries_at, follows, in_place, lines_for, same_talker}
use Rattle.sky.proofs.Numbers.{entries-at, starts}
use Rattle.sky_read.specs.Steps.{seen_of, Sound}
use Rattle.sky_read.specs.declared.Head.{Head}

-- Before line k: no line yet, or k - 1 of the announced ones with the smaller of 4(k-1) and all satellites.
pub record Begun (h : Head) (k n : ℕ) : Type 0 where
  pub announced : h.lines ≡ lines_for h.satellites
  pub nine : h.lines ≤ 9
  pub later : 2 ≤ k
  pub within : k ≤ h.lines + 1
  pub least : n ≡ 4 * (k - 1) - (4 * (k - 1) - h.satellites)

abbrev pub Size : Option Head → ℕ → ℕ → Type 0
Size None k n = (k ≡ 1) × (n ≡ 0)
Size (Some h) k n = Begun h k n

-- What a line in its place says.
pub record InPlace (k : ℕ) (v : Gsv) : Type 0 where
  pub here : v.line ≡ k
  pub in-time : k ≤ v.lines
  pub counted : v.count ≡ entries_at v.satellites k

in_place_lem : (k : ℕ) (v : Gsv) → in_place k v ≡ true → InPlace k v
unfolding in_place
in_place_lem k v e =
    let a = and_left (eqb v.line k) _ e in
    let b = and_right (eqb v.line k) _ e in
    record {
      here = eqb-true v.line k a;
      in-time = leb-true k v.lines (and_left _ _ b);
      counted = eqb-true v.count (entries_at v.satellites k) (and_right (leb k v.lines) _ b);
    }

-- The head after a line that was taken.
abbrev pub head_of : Talker → Gsv → Head
head_of t v = record { talker = t; lines = v.lines; satellites = v.satellites }

-- A line that follows: it is one of nine, stands behind full lines, and the size is right after it.
pub record Sized (k n : ℕ) (t : Talker) (v : Gsv) : Type 0 where
  pub from_one : 1 ≤ k
  pub to-nine : k ≤ 9
  pub behind : n ≡ 4 * (k - 1)
  pub after : Begun (head_of t v) (k + 1) (n + v.count)

least_more : (x d : ℕ) → x + (d - (d - 4)) ≡ x + 4 - (x + 4 - (x + d))
least_more x d = omega arith

-- One more line behind full lines, of which k - 1 are x/4.
least-next : (x sat count : ℕ) → x ≤ sat → count ≡ sat - x - (sat - x - 4) → x + count ≡ x + 4 - (x + 4 - sat)
least-next x sat count h e =
    let d : sat ≡ x + (sat - x) = omega (arith, h) in
    ap (λ (c : ℕ). x + c) e ∙ least_more x (sat - x) ∙ ap (λ (y : ℕ). x + 4 - (x + 4 - y)) (sym d)

next_place : (k : ℕ) → 1 ≤ k → 4 * (k - 1) + 4 ≡ 4 * (k + 1 - 1)
next_place k h = omega (arith, h)

module _ (k n : ℕ) (t : Talker) (v : Gsv) (sound : Sound v) where
  sized : InPlace k v → v.lines ≡ lines_for v.satellites → n ≡ 4 * (k - 1) - (4 * (k - 1) - v.satellites) → Sized k n t v
  sized p a m =
      let one : 1 ≤ k = omega (arith, p.here, sound.from_one) in
      let before : 4 * (k - 1) ≤ v.satellites = starts v.satellites k one (omega (arith, p.in-time, a)) in
      let behind : n ≡ 4 * (k - 1) = omega (arith, m, before) in
      record {
        from_one = one;
        to-nine = omega (arith, p.in-time, sound.lines-nine);
        behind = behind;
        after = record {
          announced = a;
          nine = sound.lines-nine;
          later = omega (arith, one);
          within = omega (arith, p.in-time);
          least =
              ap (λ (x : ℕ). x + v.count) behind
              ∙ least-next (4 * (k - 1)) v.satellites v.count before (p.counted ∙ entries-at v.satellites k)
              ∙ ap (λ (x : ℕ). x - (x - v.satellites)) (next_place k one);
        };
      }

  first-sized : (eqb v.lines (lines_for v.satellites) && in_place k v) ≡ true → (k ≡ 1) × (n ≡ 0) → Sized k n t v
  first-sized f z =
      sized (in_place_lem k v (and_right (eqb v.lines (lines_for v.satellites)) _ f))
      (eqb-true v.lines (lines_for v.satellites) (and_left _ _ f)) (omega (arith, z.0, z.1))

  later-sized : (h : Head) → (same_talker h.talker t &&
      (eqb h.lines v.lines && (eqb h.satellites v.satellites && in_place k v))) ≡ true → Begun h k n → Sized k n t v
  later-sized h f z =
      let f1 = and_right (same_talker h.talker t) _ f in
      let f2 = and_right (eqb h.lines v.lines) _ f1 in
      let l = eqb-true h.lines v.lines (and_left _ _ f1) in
      let s = eqb-true h.satellites v.satellites (and_left _ _ f2) in
      sized (in_place_lem k v (and_right (eqb h.satellites v.satellites) _ f2)) (sym l ∙ z.announced ∙ ap lines_for s)
      (omega (arith, z.least, s))

  pub follows-sized : (h : Option Head) (es : List Entry) → follows (seen_of h es) k t v ≡ true → Size h k n → Sized k n t v
  unfolding follows
  follows-sized None es f z = first-sized f z
  follows-sized (Some h) es f z = later-sized h f z
