-- What a reader of lines answers to an edit: a refusal with number 1 or 2, at the first line that is new or no longer as it was, field 0.
use Rattle.std.specs.Prelude.{ℕ, ◌≡◌, List, ◌⊎◌}
use Rattle.line.specs.Line.{line_refusal}
use Rattle.lines.specs.New.{first_new, line_of, IsFirstNew}

-- `refused` makes an answer of number, line and field
abbrev pub NotRefused : {A : Type 0} → (ℕ → ℕ → ℕ → A) → A → Type 0
NotRefused refused a = (n k f : ℕ) → a ≡ refused n k f → ⊥

pub record Caught {A : Type 0} (refused : ℕ → ℕ → ℕ → A) (old new : List (List ℕ)) (answer : A) : Type 0 where
  pub line : ℕ
  pub first : IsFirstNew old new line
  pub counted : line ≡ first_new old new
  pub no : ℕ
  pub of-rule : no ≡ line_refusal (line_of new line)
  pub one-or-two : (no ≡ 1) ⊎ (no ≡ 2)
  pub answers : answer ≡ refused no line 0
