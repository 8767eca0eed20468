-- A form of one field is lawful where its text reads as its value and what was read is in range.
use Prim.Native.Nat.{◌≤◌, suc, ℕ}
use mathlib.Core.List.{List}
use mathlib.Core.Path.{◌∙◌, ◌≡◌, ap, refl}
use native.Mathlib.Omega.{arith}
use lib.Dec.{lit<, lit≤}
use lib.ListN.{length}
use Rattle.numbers.specs.Layout.{Layout}
use Rattle.form.specs.Forms.{empty_field}
use Rattle.form.specs.Units.{empty_wrong}
use Rattle.form.proofs.Clean.{Clean}
use Rattle.form.proofs.Laws.{LawfulForm, of_one, ShortForm}
use Rattle.form.proofs.Values.{empty_back}

module _ {G X : Type 0} {most : ℕ} {layout : Layout X} (read : List ℕ → G) {wrong : G → ℕ} {value : G → X} {fault : X → ℕ}
    {text : X → List ℕ} where
  -- The text of a value in range reads as `good` says, which has no wrong field and that value.
  pub lawful-single : {good : X → G} → ((v : X) → fault v ≡ 0 → read (text v) ≡ good v) → ((v : X) → fault v ≡ 0 → wrong (good v) ≡ 0)
      → ((v : X) → fault v ≡ 0 → value (good v) ≡ v) → ((s : List ℕ) → wrong (read s) ≡ 0 → fault (value (read s)) ≡ 0)
      → ((v : X) → fault v ≡ 0 → Clean (text v)) → ((v : X) → fault v ≡ 0 → suc (length (text v)) ≤ most)
      → LawfulForm (of_one most layout read wrong value fault text)
  lawful-single back right same sound clean long =
      record {
        back = λ v e field b. let i = ap read (b 0 (lit< tt)) ∙ back v e in (ap wrong i ∙ right v e, ap value i ∙ same v e);
        sound = λ field e. sound (field 1) e;
        count = λ v. refl;
        clean = λ v e. (clean v e, tt);
        long = λ v e. omega (arith, long v e);
      }

  pub short-single : ((s : List ℕ) → wrong (read s) ≡ 0 → length (text (value (read s))) ≤ length s)
      → ShortForm (of_one most layout read wrong value fault text)
  short-single short = record { short = λ field e. omega (arith, short (field 1) e) }

-- A field that stays empty.
pub lawful-empty_field : LawfulForm empty_field
lawful-empty_field = lawful-single empty_wrong (λ v e. empty_back) (λ v e. refl) (λ v e. refl) (λ s e. refl) (λ v e. tt) (λ v e. lit≤ tt)
