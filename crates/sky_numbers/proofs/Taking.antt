-- Before place i of the table the entries before it are taken.
use Prim.Native.Nat.{ℕ, zero, suc, ◌+◌, ◌*◌, ◌≤◌, ◌<◌}
use mathlib.Core.Path.{◌≡◌, refl, sym, ◌∙◌, ap}
use mathlib.Core.List.{List, [], ◌∷◌, ◌++◌}
use native.Mathlib.Omega.{arith}
use native.Mathlib.Numerals.{add-one}
use lib.IntN.{ℤ}
use lib.ListN.{length, set, take, length-set}
use lib.Seq.{take_all, take-suc-set}
use Rattle.kind_gsv.specs.declared.Entry.{Entry}
use Rattle.numbers.specs.Layout.{list_at}
use Rattle.kind_gsv.specs.Row.{entry_layout}

at_snoc : (n : List ℤ) (a k : ℕ) → list_at entry_layout n a (suc k) ≡ list_at entry_layout n a k ++ (entry_layout.at n (a + 7 * k) ∷ [])
at_snoc n a zero = let e : a ≡ a + 7 * 0 = omega arith in ap (λ (i : ℕ). entry_layout.at n i ∷ []) e
at_snoc n a (suc k) =
    let e : a + 7 + 7 * k ≡ a + 7 * suc k = omega arith in
    ap (λ (l : List Entry). entry_layout.at n a ∷ l)
    (at_snoc n (a + 7) k ∙ ap (λ (i : ℕ). list_at entry_layout n (a + 7) k ++ (entry_layout.at n i ∷ [])) e)

pub record Taken (n : List ℤ) (i : ℕ) (entries : List Entry) : Type 0 where
  pub place : i ≤ 36
  pub full : length entries ≡ 36
  pub text : take i entries ≡ list_at entry_layout n 2 i

module _ (n : List ℤ) where
  pub taken_none : (entries : List Entry) → length entries ≡ 36 → Taken n 0 entries
  taken_none entries h = record { place = omega arith; full = h; text = refl }

  module _ {i : ℕ} {entries : List Entry} (t : Taken n i entries) where
    pub taken_next : i < 36 → {e : Entry} → e ≡ entry_layout.at n (2 + 7 * i) → Taken n (i + 1) (set entries i e)
    taken_next h {e} q =
        record {
          place = omega (arith, h);
          full = length-set entries i e ∙ t.full;
          text =
              rw (add-one i) (take-suc-set entries i e (omega (arith, h, t.full))
              ∙ ap (λ (l : List Entry). l ++ (e ∷ [])) t.text
              ∙ ap (λ (x : Entry). list_at entry_layout n 2 i ++ (x ∷ [])) q
              ∙ sym (at_snoc n 2 i));
        }

    pub taken-all : 36 ≤ i → entries ≡ list_at entry_layout n 2 36
    taken-all h =
        let e : i ≡ 36 = omega (arith, h, t.place) in
        sym (take_all 36 entries (omega (arith, t.full))) ∙ ap (λ (k : ℕ). take k entries) (sym e) ∙ t.text
        ∙ ap (list_at entry_layout n 2) e
