-- Values laid into what is left of an output behind its front; so the values of an array, one after another: before the i-th, the numbers
-- of those before it stand in front of what was there.
use Prim.Native.Nat.{ℕ, zero, suc, ◌+◌, ◌-◌, ◌*◌, ◌≤◌, ◌<◌}
use mathlib.Core.Path.{◌≡◌, refl, sym, ◌∙◌, ap}
use mathlib.Core.List.{List, [], ◌∷◌, ◌++◌, append_assoc, append-nil, map}
use native.Mathlib.Omega.{arith}
use native.Mathlib.Nat.{mul-suc, mul-zero, mul-le-mul_left}
use native.Mathlib.Numerals.{add-one}
use borrow.Rule.Slice.PartMut.{mid_of, put_mid, Post-is}
use borrow.Author.Tests.{le-leb, lt-leb}
use lib.IntN.{ℤ}
use lib.ListN.{length, get_or, take, drop, length-append, length-drop, drop_of_length-le, length-map}
use lib.Seq.{take_all, take-suc, length-take-le, drop-drop, take_at, drop_at}
use Rattle.numbers.specs.Numbers.{laid}
use Rattle.numbers.specs.Layout.{Layout, list_numbers, sizes}
use Rattle.numbers.proofs.Layouts.{LawfulLayout}
use Rattle.numbers.proofs.Arrays.{list_count}
use Rattle.numbers.proofs.Values.{numbers-many}

pub laid-is : (v out : List ℤ) → length v ≤ length out → laid v out ≡ v ++ drop (length v) out
unfolding laid
laid-is v out h = rw (le-leb (length v) (length out) h)

pub laid-not : (v out : List ℤ) → length out < length v → laid v out ≡ out
unfolding laid
laid-not v out h = rw (lt-leb (length v) (length out) h)

-- What is known of an array's places is known of them as they are held.
pub length-mapped : (A B : Type 0) (f : A → B) (l : List A) (n : ℕ) → length (map f l) ≡ n → length l ≡ n
length-mapped A B f l n e = sym (length-map l f) ∙ e

module _ (front rest v : List ℤ) (at : ℕ) (h : length front ≡ at) (room : length v ≤ length rest) where
  long : length (front ++ rest) ≡ at + length rest
  long = length-append front rest ∙ ap (λ (n : ℕ). n + length rest) h

  rest-is : mid_of at (length (front ++ rest) - at) (front ++ rest) ≡ rest
  rest-is =
      ap (take (length (front ++ rest) - at)) (drop_at front rest at h)
      ∙ take_all (length (front ++ rest) - at) rest (omega (arith, long))

  pub put-behind : {left : List ℤ} → left ≡ laid v (mid_of at (length (front ++ rest) - at) (front ++ rest))
      → put_mid at (length (front ++ rest) - at) (front ++ rest) left ≡ (front ++ v) ++ drop (length v) rest
  put-behind {left} e =
      let after = Post-is at (length (front ++ rest)) (front ++ rest) (omega (arith, long)) in
      let none = drop_of_length-le (front ++ rest) {i = length (front ++ rest)} (omega arith) in
      ap (λ (l : List ℤ). take at (front ++ rest) ++ (left ++ l)) (after ∙ none)
      ∙ ap (λ (l : List ℤ). take at (front ++ rest) ++ l) (append-nil left ∙ e ∙ ap (laid v) rest-is ∙ laid-is v rest room)
      ∙ ap (λ (l : List ℤ). l ++ (v ++ drop (length v) rest)) (take_at front rest at h)
      ∙ sym (append_assoc front v (drop (length v) rest))

-- Values at the start, and others behind them.
module _ (v w out : List ℤ) (at : ℕ) (h : length v ≡ at) (room : at + length w ≤ length out) where
  pub laid-two : (left : List ℤ) {behind : List ℤ} → left ≡ laid v out → behind ≡ laid w (mid_of at (length left - at) left)
      → put_mid at (length left - at) left behind ≡ laid (v ++ w) out
  laid-two left {behind} e i =
      let f : left ≡ v ++ drop (length v) out = e ∙ laid-is v out (omega (arith, h, room)) in
      let less : length w ≤ length (drop (length v) out) = omega (arith, length-drop (length v) out, h, room) in
      let long = length-append v w in
      rw f (put-behind v (drop (length v) out) w at h less (rw f at i))
      ∙ ap (λ (l : List ℤ). (v ++ w) ++ l) (drop-drop (length w) (length v) out ∙ ap (λ (n : ℕ). drop n out) (sym long))
      ∙ sym (laid-is (v ++ w) out (omega (arith, long, h, room)))

sizes-are : (w k : ℕ) → sizes w k ≡ w * k
sizes-are w zero = sym (mul-zero w)
sizes-are w (suc k) = omega (arith, sizes-are w k, mul-suc w k)

module _ {X : Type 0} {a : Layout X} (f : LawfulLayout a) (none : X) where
  pub many : (vs : List X) → length (list_numbers a vs []) ≡ a.size * length vs
  many vs = omega (arith, list_count f vs [], sizes-are a.size (length vs))

  snoc : (vs : List X) (v : X) → list_numbers a (vs ++ (v ∷ [])) [] ≡ list_numbers a vs [] ++ a.numbers v []
  snoc [] v = refl
  snoc (x ∷ vs) v =
      ap (a.numbers x) (snoc vs v) ∙ f.onto x (list_numbers a vs [] ++ a.numbers v [])
      ∙ sym (append_assoc (a.numbers x []) (list_numbers a vs []) (a.numbers v []))
      ∙ ap (λ (l : List ℤ). l ++ a.numbers v []) (sym (f.onto x (list_numbers a vs [])))

  -- The values before the i-th are stored.
  pub record Stored (vs : List X) (first : List ℤ) (i : ℕ) (out : List ℤ) : Type 0 where
    pub place : i ≤ length vs
    pub room : a.size * length vs ≤ length first
    pub text : out ≡ list_numbers a (take i vs) [] ++ drop (a.size * i) first

  module _ (vs : List X) (first : List ℤ) where
    pub stored-none : a.size * length vs ≤ length first → Stored vs first 0 first
    stored-none h = record { place = omega arith; room = h; text = ap (λ (n : ℕ). drop n first) (sym (mul-zero a.size)) }

    module _ {i : ℕ} {out : List ℤ} (s : Stored vs first i out) where
      front_long : length (list_numbers a (take i vs) []) ≡ a.size * i
      front_long = many (take i vs) ∙ ap (λ (n : ℕ). a.size * n) (length-take-le i vs s.place)

      inside : a.size * i ≤ length first
      inside = omega (arith, mul-le-mul_left a.size s.place, s.room)

      pub stored-long : length out ≡ length first
      stored-long =
          ap length s.text
          ∙ omega (
            arith,
            length-append (list_numbers a (take i vs) []) (drop (a.size * i) first),
            front_long,
            length-drop (a.size * i) first,
            inside,
          )

      pub stored_at : a.size * i ≤ length out
      stored_at = omega (arith, inside, stored-long)

      pub stored_next : i < length vs → {left : List ℤ}
          → left ≡ laid (a.numbers (get_or vs i none) []) (mid_of (a.size * i) (length out - a.size * i) out)
          → Stored vs first (i + 1) (put_mid (a.size * i) (length out - a.size * i) out left)
      stored_next h {left} e =
          record {
            place = omega (arith, h);
            room = s.room;
            text =
                rw s.text (put-behind front rest v (a.size * i) front_long room (rw s.text at e))
                ∙ ap (λ (l : List ℤ). l ++ drop (length v) rest) more
                ∙ ap (λ (l : List ℤ). list_numbers a (take (i + 1) vs) [] ++ l) less;
          }
        where
          front : List ℤ
          front = list_numbers a (take i vs) []

          rest : List ℤ
          rest = drop (a.size * i) first

          v : List ℤ
          v = a.numbers (get_or vs i none) []

          next : a.size * (i + 1) ≡ a.size * i + a.size
          next = ap (λ (n : ℕ). a.size * n) (add-one i) ∙ mul-suc a.size i

          room : length v ≤ length rest
          room =
              let there : i + 1 ≤ length vs = omega (arith, h) in
              let most = mul-le-mul_left a.size there in
              omega (arith, numbers-many f (get_or vs i none), length-drop (a.size * i) first, most, next, s.room)

          more : front ++ v ≡ list_numbers a (take (i + 1) vs) []
          more =
              let e : take (i + 1) vs ≡ take i vs ++ (get_or vs i none ∷ []) = rw (add-one i) (take-suc vs i none h) in
              sym (snoc (take i vs) (get_or vs i none)) ∙ ap (λ (l : List X). list_numbers a l []) (sym e)

          less : drop (length v) rest ≡ drop (a.size * (i + 1)) first
          less =
              drop-drop (length v) (a.size * i) first
              ∙ ap (λ (n : ℕ). drop (a.size * i + n) first) (numbers-many f (get_or vs i none))
              ∙ ap (λ (n : ℕ). drop n first) (sym next)

      pub stored-all : length vs ≤ i → out ≡ laid (list_numbers a vs []) first
      stored-all h =
          let e : i ≡ length vs = omega (arith, h, s.place) in
          let room : length (list_numbers a vs []) ≤ length first = omega (arith, many vs, s.room) in
          s.text
          ∙ ap (λ (k : ℕ). list_numbers a (take k vs) [] ++ drop (a.size * k) first) e
          ∙ ap (λ (l : List X). list_numbers a l [] ++ drop (a.size * length vs) first) (take_all (length vs) vs (omega arith))
          ∙ ap (λ (n : ℕ). list_numbers a vs [] ++ drop n first) (sym (many vs))
          ∙ sym (laid-is (list_numbers a vs []) first room)
