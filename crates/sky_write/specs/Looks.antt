-- What the writer's look at one entry says, whichever entries the marks are of. Nothing here is needed to know what a group is.
use Rattle.std.specs.Prelude.{ℕ, [], ◌++◌, ◌∷◌, List, ◌≡◌, length}
use Rattle.frame.specs.declared.Written.{Written}
use Rattle.kind_gsv.specs.declared.Entry.{Entry}
use Rattle.sky.specs.Marks.{Marks}
use Rattle.sky.specs.Table.{entry_fault}

pub record Looks (i : ℕ) (e : Entry) (seen : List ℕ) (answer : Written) (left : List ℕ) : Type 0 where
  pub long : length left ≡ length seen
  pub answers : (before : List Entry) → Marks before seen → answer ≡ entry_fault i before e
  pub marks : (before : List Entry) → Marks before seen → answer.no ≡ 0 → Marks (before ++ (e ∷ [])) left
