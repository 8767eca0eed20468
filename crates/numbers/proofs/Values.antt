-- The layouts of the values of records are lawful, and what this says of a record in a list of numbers.
use mathlib.Core.Path.{◌≡◌, refl, ◌∙◌}
use mathlib.Core.Bool.{true}
use mathlib.Core.List.{List, [], ◌++◌}
use native.Mathlib.Omega.{arith}
use native.Mathlib.Nat.{add-zero}
use lib.IntN.{ℤ, pos}
use lib.ListN.{length, get_or-append}
use lib.Seq.{get_or-append-add}
use Rattle.address.specs.declared.Talker.{Talker}
use Rattle.address.specs.declared.Talker.TheVariants as T
use Rattle.numbers.specs.Numbers.{talker_number, talker_of}
use Rattle.numbers.specs.Layout.{Layout, whole}
use Rattle.numbers.specs.Layout.{talker_layout}
use Rattle.numbers.proofs.Layouts.{Holds, LawfulLayout, lawful-whole, lawful-shaped}

talker-back : (t : Talker) → talker_of (talker_number t) ≡ t
talker-back T.Gp = refl
talker-back T.Gl = refl
talker-back T.Ga = refl
talker-back T.Gq = refl
talker-back T.Gn = refl

pub talker-held : (t : Talker) → talker_layout.held t ≡ true
talker-held T.Gp = refl
talker-held T.Gl = refl
talker-held T.Ga = refl
talker-held T.Gq = refl
talker-held T.Gn = refl

pub lawful-talker : LawfulLayout talker_layout
lawful-talker = lawful-shaped talker_of talker_number whole talker-back lawful-whole

-- The numbers of a value, behind some and before others, hold that value.
module _ {X : Type 0} {a : Layout X} (f : LawfulLayout a) where
  pub numbers-many : (v : X) → length (a.numbers v []) ≡ a.size
  numbers-many v = f.count v [] ∙ add-zero a.size

  pub numbers-back : (front : List ℤ) (v : X) (rest : List ℤ) → a.held v ≡ true
      → a.at (front ++ (a.numbers v [] ++ rest)) (length front) ≡ v
  numbers-back front v rest e = f.back v e [] (front ++ (a.numbers v [] ++ rest)) (length front) held
    where
      held : Holds (front ++ (a.numbers v [] ++ rest)) (length front) a.size (a.numbers v [])
      held k h =
          get_or-append-add front (a.numbers v [] ++ rest) k (pos 0)
          ∙ get_or-append (a.numbers v []) rest (pos 0) k (omega (arith, numbers-many v))
