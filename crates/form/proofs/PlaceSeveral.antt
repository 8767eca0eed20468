-- The place of a 5 in a form of several fields: which of them is named is decided field by field, and from each on there are texts that
-- complete what stands before it.
use Prim.Native.Nat.{◌-◌, ◌<◌, ◌≤◌, suc, zero, ℕ}
use mathlib.Core.Bool.{Bool, false, true}
use mathlib.Core.List.{[], ◌∷◌, List}
use Rattle.std.specs.Prelude.{None, Option, Some}
use mathlib.Core.Path.{◌∙◌, ◌≡◌, ap, refl}
use native.Mathlib.Omega.{arith}
use lib.Dec.{eqb, ltb}
use lib.ListN.{get_or, length}
use borrow.Author.Tests.{eq-eqb, eqb-true, le-ltb, lt-ltb, ltb-false, ltb-true}
use Rattle.digits.specs.Pick.{pick}
use Rattle.form.specs.Row.{Form}
use Rattle.form.proofs.Clean.{Clean, CleanAll}
use Rattle.form.proofs.PlaceLaws.{Agree, Completed, named, PrefixFormBut}

abbrev pub empty : List ℕ → Bool
empty f = eqb (length f) 0

-- A field that is neither empty nor read.
abbrev pub unread : Bool → Option ℕ → Bool
unread true o = false
unread false None = true
unread false (Some v) = false

-- Fields of which those from the k-th on are put.
abbrev pub put : (ℕ → List ℕ) → ℕ → List (List ℕ) → ℕ → List ℕ
put field k l j = pick (ltb j k) (field j) (get_or l (j - k) [])

clean_at : (l : List (List ℕ)) (j : ℕ) → CleanAll l → Clean (get_or l j [])
clean_at [] j c = tt
clean_at (f ∷ l) zero c = c.0
clean_at (f ∷ l) (suc j) c = clean_at l j c.1

pub put-from : {wrong : (ℕ → List ℕ) → ℕ} {field : ℕ → List ℕ} {w : ℕ} (k : ℕ) (l : List (List ℕ)) → CleanAll l
    → wrong (put field k l) ≡ 0 → Completed wrong field suc w k
put-from {field = field} k l c e =
    record {
      other = put field k l;
      before = λ j h. rw (lt-ltb (suc j) k h);
      clean = λ j h i. rw (le-ltb (suc j) k i) (clean_at l (suc j - k) c);
      accepted = e;
    }

-- Whether the k-th is named goes by the fields up to it.
module _ {G X : Type 0} (f : Form G X) (own : (field other : ℕ → List ℕ) → Agree field other suc f.width → f.got other ≡ f.got field)
    (within : (field : ℕ → List ℕ) → named f field ≤ f.width)
    (decided : (field other : ℕ → List ℕ) (k : ℕ) → 0 < k → k < f.width → Agree field other suc k
    → eqb (named f other) k ≡ eqb (named f field) k) where
  several-stay : (field other : ℕ → List ℕ) → 0 < named f field → Agree field other suc (named f field) → named f other ≡ named f field
  several-stay field other h s = go (ltb (named f field) f.width) refl
    where
      go : (t : Bool) → ltb (named f field) f.width ≡ t → named f other ≡ named f field
      go true e =
          let d = decided field other (named f field) h (ltb-true (named f field) f.width e) s in
          eqb-true (named f other) (named f field) (d ∙ eq-eqb (named f field) (named f field) refl)
      go false e =
          let i = ltb-false (named f field) f.width e in
          ap f.wrong (own field other (λ j k. s j (omega arith)))

  pub prefix-several : {usual : (ℕ → List ℕ) → Type 0}
      → ((field : ℕ → List ℕ) (k : ℕ) → 0 < k → k ≤ f.width → named f field ≡ k → usual field
      → Completed (named f) field suc f.width k)
      → ((field : ℕ → List ℕ) → Completed (named f) field suc f.width 1) → PrefixFormBut f usual
  prefix-several mended fresh =
      record {
        own = own;
        within = within;
        stays = several-stay;
        completed = λ field h u. mended field (named f field) h (within field) refl u;
        fresh = fresh;
      }
