-- The numbers of an index's entries, laid one after another: since the bytes from a place on read as entries, the next of them is one that
-- fits, there is room for its numbers, and the bytes behind it read as the others.
use Prim.Native.Nat.{ℕ, ◌+◌, ◌≤◌}
use mathlib.Core.Path.{◌≡◌, refl, sym, ap, ◌∙◌}
use mathlib.Core.Bool.{Bool, true, false}
use mathlib.Core.List.{List, [], ◌∷◌, ◌++◌}
use native.Mathlib.Omega.{arith}
use lib.Dec.{ltb}
use lib.ListN.{length, get_or, drop}
use borrow.Author.Tests.{le-ltb}
use Rattle.put.specs.Wrote.{Held, held, wrote, Puts}
use Rattle.put.proofs.Chain.{wrote-append, put_whole}
use Rattle.index.specs.declared.Entry.{Entry}
use Rattle.index.specs.declared.reading.Laid.{Laid}
use Rattle.index.specs.Index.{end_of, fits, entry_behind, Listing, listed, no_index, onto, read_from, read_index}
use Rattle.index.specs.Answers.{numbers_of, entries_in, laid_for}
use Rattle.index.specs.Places.{Near, tip, laid_at, unlaid, Lays, LaysOn}
use Rattle.index.proofs.Back.{same-entry}
use Rattle.index.proofs.Parts.{near-is}
use Rattle.index.proofs.Places.{by, Entered, entered, entered-none, entered-bad}
use Rattle.index.proofs.Tips.{read_same}

never : {A : Type 0} (x : Listing) (es : List Entry) → x ≡ no_index → x ≡ listed es → A
never x es e f = let z : ◌≡◌ {A = ℕ} 0 1 = cc in let n : ⊥ = omega arith in absurd n

-- The next entry, and the place behind it.
record Behind (s : List ℕ) (p : Laid) (e : Entry) (q : Laid) : Type 0 where
  pub rest : unlaid s p ≡ e ∷ unlaid s q
  pub whole : read_from (tip q.number q.end) (drop q.at s) ≡ listed (unlaid s q)

is-behind : (s : List ℕ) (p q : Laid) (e : Entry) → read_from (tip p.number p.end) (drop p.at s) ≡ listed (unlaid s p)
    → Entered s p.at (tip p.number p.end) e q.at → q.number ≡ e.number → q.end ≡ end_of e → Behind s p e q
is-behind s p q e w t n d = go (read_from (tip q.number q.end) (drop q.at s)) refl
  where
    same : read_from e (drop q.at s) ≡ read_from (tip q.number q.end) (drop q.at s)
    same = read_same e (tip q.number q.end) (sym n) (omega arith) (drop q.at s)

    go : (x : Listing) → read_from (tip q.number q.end) (drop q.at s) ≡ x → Behind s p e q
    go no_index f = never (read_from (tip p.number p.end) (drop p.at s)) (unlaid s p) (t.reads ∙ ap (onto e) (same ∙ f)) w
    go (listed es) f =
        let is : listed (unlaid s p) ≡ listed (e ∷ es) = sym w ∙ t.reads ∙ ap (onto e) (same ∙ f) in
        let left : unlaid s q ≡ es = ap entries_in f in
        let first : unlaid s p ≡ e ∷ es = cc is in
        record { rest = first ∙ ap (λ (ds : List Entry). e ∷ ds) (sym left); whole = f ∙ ap listed (sym left) }

numbers_more : (e : Entry) (es : List Entry) → length (numbers_of (e ∷ es)) ≡ 3 + length (numbers_of es)
unfolding numbers_of
numbers_more e es = omega arith

numbers-next : (e : Entry) (es : List Entry) → numbers_of (e ∷ es) ≡ numbers_of (e ∷ []) ++ numbers_of es
unfolding numbers_of
numbers-next e es = refl

-- There is room for the numbers of an entry.
pub entry-room : {s out : List ℕ} {p : Laid} {e : Entry} {b : ℕ} → Lays s out p → Entered s p.at (tip p.number p.end) e b
    → p.place + 3 ≤ length out
entry-room {s} {out} {p} {e} {b} x t =
    let y = is-behind s p (laid_at b e.number (end_of e) 0) e x.whole t refl refl in
    omega (
      arith,
      x.room,
      ap (λ (es : List Entry). length (numbers_of es)) y.rest,
      numbers_more e (unlaid s (laid_at b e.number (end_of e) 0)),
    )

pub lays-start : (s out : List ℕ) (p : Laid) → Lays s out p → LaysOn s out p out p
lays-start s out p x = record { on = omega arith; lays = x; stores = refl }

pub lays-next : {s out₀ out left : List ℕ} {p₀ p q : Laid} {e : Entry} → LaysOn s out₀ p₀ out p
    → Entered s p.at (tip p.number p.end) e q.at → q.number ≡ e.number → q.end ≡ end_of e → q.place ≡ p.place + 3
    → Puts (held p.place out) (numbers_of (e ∷ [])) (held q.place left) → length left ≡ length out → LaysOn s out₀ p₀ left q
lays-next {s} {out₀} {out} {left} {p₀} {p} {q} {e} x t n d three put same =
    let y = is-behind s p q e x.lays.whole t n d in
    record {
      on = omega (arith, x.on, t.on);
      lays = record {
        inside = t.inside;
        whole = y.whole;
        room = omega (
          arith,
          x.lays.room,
          ap (λ (es : List Entry). length (numbers_of es)) y.rest,
          numbers_more e (unlaid s q),
        );
      };
      stores =
          ap (λ (h : Held). wrote h (numbers_of (unlaid s q))) put.is
          ∙ sym (wrote-append (held p.place out) (numbers_of (e ∷ [])) (numbers_of (unlaid s q)))
          ∙ ap (wrote (held p.place out)) (sym (numbers-next e (unlaid s q)) ∙ ap numbers_of (sym y.rest))
          ∙ x.stores;
    }

pub lays-on : {s out₀ out left : List ℕ} {p₀ p q : Laid} → LaysOn s out₀ p₀ out p → LaysOn s out p left q → LaysOn s out₀ p₀ left q
lays-on x y = record { on = omega (arith, x.on, y.on); lays = y.lays; stores = y.stores ∙ x.stores }

-- Three bytes that are a number each, where the bytes read as entries.
pub record Turn (s out : List ℕ) (at number end place : ℕ) : Type 0 where
  pub enters : Entered s at (tip number end) (by (number + get_or s at 0) (end + get_or s (at + 1) 0) (get_or s (at + 2) 0)) (at + 3)
  pub room : place + 3 ≤ length out

pub turn : {s out : List ℕ} {at number end place : ℕ} → Lays s out (laid_at at number end place) → Near s at → Turn s out at number end place
turn {s} {out} {at} {number} {end} {place} x near =
    let t = go (fits (tip number end) (entry_behind (tip number end) (get_or s at 0) (get_or s (at + 1) 0) (get_or s (at + 2) 0))) refl in
    record { enters = t; room = entry-room x t }
  where
    is : entry_behind (tip number end) (get_or s at 0) (get_or s (at + 1) 0) (get_or s (at + 2) 0)
        ≡ by (number + get_or s at 0) (end + get_or s (at + 1) 0) (get_or s (at + 2) 0)
    is = same-entry (entry_behind (tip number end) (get_or s at 0) (get_or s (at + 1) 0) (get_or s (at + 2) 0))
        (by (number + get_or s at 0) (end + get_or s (at + 1) 0) (get_or s (at + 2) 0)) refl (omega arith) refl

    go : (b : Bool) → fits (tip number end) (entry_behind (tip number end) (get_or s at 0) (get_or s (at + 1) 0) (get_or s (at + 2) 0)) ≡ b
        → Entered s at (tip number end) (by (number + get_or s at 0) (end + get_or s (at + 1) 0) (get_or s (at + 2) 0)) (at + 3)
    go true f = rw is at (entered s at (tip number end)
        {e = entry_behind (tip number end) (get_or s at 0) (get_or s (at + 1) 0) (get_or s (at + 2) 0)} {p = at + 3}
        (near-is s at (tip number end) near) (rw f))
    go false f =
        never (read_from (tip number end) (drop at s)) (unlaid s (laid_at at number end place))
        (entered-bad s at (tip number end) (near-is s at (tip number end) near) (rw f)) x.whole

-- All numbers laid; and bytes that are no entry, which do not come.
pub laid-never : {A : Type 0} {s out : List ℕ} {p : Laid} → Lays s out p
    → read_from (tip p.number p.end) (drop p.at s) ≡ no_index → A
laid-never {s = s} {p = p} x f = never (read_from (tip p.number p.end) (drop p.at s)) (unlaid s p) f x.whole

pub laid-all : {s out₀ out : List ℕ} {p : Laid} → Lays s out₀ (laid_at 0 0 0 0) → LaysOn s out₀ (laid_at 0 0 0 0) out p → length s ≤ p.at
    → out ≡ laid_for (read_index s) out₀
unfolding numbers_of wrote
laid-all {s} {out₀} {out} {p} y x h =
    let none : unlaid s p ≡ [] = ap entries_in (entered-none s p.at (tip p.number p.end) h) in
    let put : Puts (held 0 out₀) (numbers_of (unlaid s (laid_at 0 0 0 0))) (held p.place out) = record {
      is = sym (ap (λ (ds : List Entry). wrote (held p.place out) (numbers_of ds)) none) ∙ x.stores;
    } in
    let fits_in : length (numbers_of (unlaid s (laid_at 0 0 0 0))) ≤ length out₀ = omega (arith, y.room) in
    let room : ltb (length out₀) (length (numbers_of (unlaid s (laid_at 0 0 0 0)))) ≡ false =
    le-ltb (length out₀) (length (numbers_of (unlaid s (laid_at 0 0 0 0)))) fits_in in
    let is : read_index s ≡ listed (unlaid s (laid_at 0 0 0 0)) = y.whole in
    rw (is, room) (put_whole put fits_in)
