-- Before line k the lines before it stand at the start of the output and the others are still to come, so that all of them are the group;
-- each line finds room, since the group has it, and moves the place where the next one starts to its own end. What the writer answers and
-- leaves then follows from the table's fault, the size of the group and the room.
use Prim.Native.Nat.{◌+◌, ◌-◌, ◌<◌, ◌≤◌, suc, ℕ}
use mathlib.Core.List.{◌++◌, append_assoc, append-nil, List}
use mathlib.Core.Path.{◌∙◌, ◌≡◌, ap, refl, sym}
use native.Mathlib.Omega.{arith}
use lib.ListN.{drop, drop_of_length-le, length, length-append, length-drop, take, take-append-drop}
use lib.Seq.{drop_at, drop-drop, length-take-le, take_all, take_at}
use borrow.Author.Tests.{eq-eqb, le-ltb, lt-ltb, ne_eqb}
use borrow.Rule.Slice.PartMut.{mid_of, Post-is, put_mid}
use Rattle.line.specs.Line.{as_line}
use Rattle.lines.specs.Cut.{joined}
use Rattle.address.specs.declared.Talker.{Talker}
use Rattle.frame.specs.Written.{left_of, refused, Writes, written_of, wrote}
use Rattle.frame.specs.declared.Written.{Written}
use Rattle.frame.proofs.Sealing.{line-length}
use Rattle.kind_gsv.specs.declared.Gsv.{Gsv}
use Rattle.kind_gsv.specs.Writing.{gsv_body, gsv_fault}
use Rattle.sentence_laws.proofs.Gsv.{fits}
use Rattle.sky.specs.Group.{lines_for}
use Rattle.sky.specs.Table.{group_text, left_group, line_at, lines_from, table_fault, WritesGroup, written_group}
use Rattle.sky.specs.declared.Table.{Table}
use Rattle.sky_write.specs.Ready.{PutsGroup, Ready}
use Rattle.sky_write.specs.Size.{table_size}
use Rattle.sky_write.proofs.Counts.{lines_are}
use Rattle.sky_write.proofs.LineLaws.{clear-is, line-good}
use Rattle.sky_write.proofs.RoomLaws.{room-is}

-- A good record's line in an output with room for it.
pub record Wrote (line out : List ℕ) (answer : Written) (left : List ℕ) : Type 0 where
  pub answers : answer ≡ wrote (length line)
  pub leaves : left ≡ line ++ drop (length line) out

line_wrote : (f : Written) (s o : List ℕ) {a : Written} {l : List ℕ} → Writes f s o a l → f.no ≡ 0 → length s ≤ 76
    → length (as_line s) ≤ length o → Wrote (as_line s) o a l
unfolding written_of left_of
line_wrote f s o w z h i =
    let k = le-ltb 82 (length (as_line s)) (omega (arith, h, line-length s)) in
    let q = le-ltb (length o) (length (as_line s)) i in
    record { answers = w.answers ∙ rw (eq-eqb f.no 0 z, k, q); leaves = w.leaves ∙ rw (eq-eqb f.no 0 z, k, q) }

-- A line put into what is left of an output from place `at` on.
module _ (out : List ℕ) (at : ℕ) (line : List ℕ) (h : at + length line ≤ length out) where
  rest-is : mid_of at (length out - at) out ≡ drop at out
  rest-is = take_all (length out - at) (drop at out) (omega (arith, length-drop at out))

  put_is : {left : List ℕ} → left ≡ line ++ drop (length line) (drop at out)
      → put_mid at (length out - at) out left ≡ (take at out ++ line) ++ drop (at + length line) out
  put_is {left} e =
      ap (λ (l : List ℕ). take at out ++ (left ++ l))
      (Post-is at (length out) out (omega (arith, h)) ∙ drop_of_length-le out {i = length out} (omega arith))
      ∙ ap (λ (l : List ℕ). take at out ++ l) (append-nil left ∙ e ∙ ap (λ (l : List ℕ). line ++ l) (drop-drop (length line) at out))
      ∙ sym (append_assoc (take at out) line (drop (at + length line) out))

  front_long : length (take at out ++ line) ≡ at + length line
  front_long = length-append (take at out) line ∙ ap (λ (n : ℕ). n + length line) (length-take-le at out (omega (arith, h)))

  all-long : length ((take at out ++ line) ++ drop (at + length line) out) ≡ length out
  all-long = omega (
    arith,
    h,
    length-append (take at out ++ line) (drop (at + length line) out),
    front_long,
    length-drop (at + length line) out,
  )

-- The lines before line k stand in the output, `at` bytes of them.
pub record Put (t : Talker) (r : Table) (first : List ℕ) (lines k at : ℕ) (out : List ℕ) : Type 0 where
  pub some : 1 ≤ k
  pub most : k ≤ lines + 1
  pub place : at ≤ length out
  pub long : length out ≡ length first
  pub text : group_text t r ≡ take at out ++ joined (lines_from t r k (lines + 1 - k))
  pub rest : drop at out ≡ drop at first

module _ (t : Talker) (r : Table) (first : List ℕ) (lines : ℕ) (q : lines ≡ lines_for r.count) where
  pub put-none : Put t r first lines 1 0 first
  unfolding group_text
  put-none =
      let e : lines_for r.count ≡ lines + 1 - 1 = omega (arith, q) in
      record {
        some = omega arith;
        most = omega arith;
        place = omega arith;
        long = refl;
        text = ap (λ (m : ℕ). joined (lines_from t r 1 m)) e;
        rest = refl;
      }

  module _ (full : length r.entries ≡ 36) (ready : Ready t r first) {k at : ℕ} {out : List ℕ} (p : Put t r first lines k at out) where
    pub put_all : lines < k → PutsGroup t r first at out
    put_all h =
        let e : lines + 1 - k ≡ 0 = omega (arith, h) in
        let g : group_text t r ≡ take at out = p.text ∙ ap (λ (m : ℕ). take at out ++ joined (lines_from t r k m)) e
        ∙ append-nil (take at out) in
        let n : length (group_text t r) ≡ at = ap (λ (l : List ℕ). length l) g ∙ length-take-le at out p.place in
        record {
          answers = sym n;
          leaves = sym (take-append-drop at out) ∙ ap (λ (l : List ℕ). take at out ++ l) p.rest
              ∙ rw (g, length-take-le at out p.place);
        }

    module _ (h : k ≤ lines) where
      abbrev line : List ℕ
      line = as_line (gsv_body t (line_at r k))

      abbrev later : List ℕ
      later = joined (lines_from t r (k + 1) (lines + 1 - (k + 1)))

      text-is : group_text t r ≡ (take at out ++ line) ++ later
      text-is =
          let e : lines + 1 - k ≡ suc (lines + 1 - (k + 1)) = omega (arith, h) in
          p.text ∙ ap (λ (m : ℕ). take at out ++ joined (lines_from t r k m)) e ∙ sym (append_assoc (take at out) line later)

      room : at + length line ≤ length out
      room =
          omega (
            arith,
            ap (λ (l : List ℕ). length l) text-is,
            length-append (take at out ++ line) later,
            length-append (take at out) line,
            length-take-le at out p.place,
            ready.room,
            p.long,
          )

      wrote_it : {v : Gsv} {a : Written} {left : List ℕ} → v ≡ line_at r k
          → Writes (gsv_fault v) (gsv_body t v) (mid_of at (length out - at) out) a left → Wrote line (drop at out) a left
      wrote_it {v} {a} {left} e w =
          line_wrote (gsv_fault (line_at r k)) (gsv_body t (line_at r k)) (drop at out) (rw (e, rest-is out at line room) at w)
          (line-good r full ready.good k p.some (omega (arith, h, q))) (fits t (line_at r k))
          (omega (arith, room, length-drop at out))

      pub put_next : {v : Gsv} {a : Written} {left : List ℕ} → v ≡ line_at r k
          → Writes (gsv_fault v) (gsv_body t v) (mid_of at (length out - at) out) a left
          → Put t r first lines (k + 1) (at + a.length) (put_mid at (length out - at) out left)
      put_next {v} {a} {left} e w =
          let x = wrote_it e w in
          let n : a.length ≡ length line = ap (λ (b : Written). b.length) x.answers in
          let y = put_is out at line room x.leaves in
          let f = front_long out at line room in
          rw (n, y)
          record {
            some = omega arith;
            most = omega (arith, h);
            place = omega (arith, room, all-long out at line room);
            long = all-long out at line room ∙ p.long;
            text = text-is ∙ sym (ap (λ (l : List ℕ). l ++ later)
                (take_at (take at out ++ line) (drop (at + length line) out) (at + length line) f));
            rest = drop_at (take at out ++ line) (drop (at + length line) out) (at + length line) f
                ∙ sym (drop-drop (length line) at out) ∙ ap (λ (l : List ℕ). drop (length line) l) p.rest
                ∙ drop-drop (length line) at first;
          }

      pub next_place : {v : Gsv} {a : Written} {left : List ℕ} → v ≡ line_at r k
          → Writes (gsv_fault v) (gsv_body t v) (mid_of at (length out - at) out) a left → at + a.length ≤ length first
      next_place {v} {a} {left} e w = let n = put_next e w in omega (arith, n.place, n.long)

      pub nine : k ≤ 9
      nine = omega (arith, h, q, (lines_are r.count).nine (clear-is r full ready.good).few)

-- The ways out of the writer, in its order: the table's fault, 8, and the lines.
module _ (t : Talker) (r : Table) (out : List ℕ) {f : Written} (e : f ≡ table_fault r) where
  pub fault-out : (f.no ≡ 0 → ⊥) → WritesGroup t r out f out
  unfolding written_group left_group
  fault-out h = record { answers = rw (← e, ne_eqb f.no 0 h); leaves = rw (← e, ne_eqb f.no 0 h, ne_eqb f.no 0 h) }

  module _ (full : length r.entries ≡ 36) (z : f.no ≡ 0) where
    good : (table_fault r).no ≡ 0
    good = sym (ap (λ (w : Written). w.no) e) ∙ z

    pub few : r.count ≤ 36
    few = (clear-is r full good).few

    module _ {n : ℕ} (s : n ≡ table_size r) where
      size : length (group_text t r) ≡ n
      size = room-is t r full few ∙ sym s

      pub short-out : {a : Written} → length out < n → a ≡ refused 8 0 0 → WritesGroup t r out a out
      unfolding written_group left_group
      short-out h q =
          let k = lt-ltb (length out) (length (group_text t r)) (omega (arith, h, size)) in
          record { answers = q ∙ rw (← e, eq-eqb f.no 0 z, k); leaves = rw (← e, eq-eqb f.no 0 z, k) }

      module _ (h : n ≤ length out) where
        pub ready : Ready t r out
        ready = record { good = good; room = omega (arith, h, size) }

        pub group-out : {m : ℕ} {left : List ℕ} → PutsGroup t r out m left → WritesGroup t r out (wrote m) left
        unfolding written_group left_group
        group-out w =
            let k = le-ltb (length out) (length (group_text t r)) (omega (arith, h, size)) in
            record {
              answers = ap wrote w.answers ∙ rw (← e, eq-eqb f.no 0 z, k);
              leaves = w.leaves
                  ∙ rw (← e, eq-eqb f.no 0 z, k);
            }
